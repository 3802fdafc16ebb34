-- Names that are given in turn: what holds of them at each step, and what stays.
use Rattle.std.proofs.Common.{◌≡◌, ℕ, ◌+◌, ◌-◌, ◌<◌, ◌≤◌, true, false, ℤ}
use Rattle.std.proofs.Common.{List, [], ◌∷◌}
use Rattle.std.proofs.Common.{◌⊎◌, inl, inr, if◌then◌else◌, nat_eq, nat_lt, refl, sym, ap, ◌∙◌, subst, arith}
use Rattle.std.specs.Prelude.{nat_abs}
use Rattle.std.proofs.lemmas.Bool.{and_parts, and_from, both_ways, cases_lt, false_from_ne_true}
use Rattle.std.proofs.lemmas.Bool.Decides.{Decides-eqb, Decides-ltb}
use Rattle.fresh_names.specs.Fresh.{Names, is_new, with_value, entered_as, entered, left, all_entered, all_left, first_names}

-- the formula's, or in use
abbrev pub IsKnown : ℕ → Names → ℕ → Type 0
IsKnown vars names v = (v ≤ vars) ⊎ (0 < names.uses v)

pub known-new : (vars : ℕ) (names : Names) (v : ℕ) → is_new vars names v ≡ true → (vars < v) × (names.uses v ≡ 0)
known-new vars names v h =
    let parts = and_parts (nat_lt vars v) (nat_eq (names.uses v) 0) h in
    ((Decides-ltb vars v).0 parts.0, (Decides-eqb (names.uses v) 0).0 parts.1)

pub not-new : (vars : ℕ) (names : Names) (v : ℕ) → IsKnown vars names v → is_new vars names v ≡ false
not-new vars names v (inl own) = false_from_ne_true _ (λ h. let is = known-new vars names v h in let above : vars < v = is.0 in omega arith)
not-new vars names v (inr used) =
    false_from_ne_true _ (λ h. let is = known-new vars names v h in let none : names.uses v ≡ 0 = is.1 in omega arith)

pub is-known : (vars : ℕ) (names : Names) (v : ℕ) → is_new vars names v ≡ false → IsKnown vars names v
is-known vars names v h =
    elim (cases_lt vars v) [
      | inl above ↦ elim (cases_lt 0 (names.uses v)) [
        | inl used ↦ inr used
        | inr none ↦
            let zero_uses : names.uses v ≡ 0 = omega arith in
            absurd (both_ways (is_new vars names v) h (and_from _ _ ((Decides-ltb vars v).1 above) ((Decides-eqb (names.uses v) 0).1
            zero_uses)))
      ]
      | inr own ↦ inl own
    ]

-- a value at one place, and at another
pub at-value : (f : ℕ → ℕ) (v value : ℕ) → with_value f v value v ≡ value
at-value f v value = ap (λ b. if b then value else f v) ((Decides-eqb v v).1 refl)

at-other : (f : ℕ → ℕ) (v value w : ℕ) → nat_eq w v ≡ false → with_value f v value w ≡ f w
at-other f v value w other = ap (λ b. if b then value else f w) other

-- whether it is this place
same-or-other : (w v : ℕ) → (w ≡ v) ⊎ (nat_eq w v ≡ false)
same-or-other w v = elim (nat_eq w v) as (λ b. nat_eq w v ≡ b → (w ≡ v) ⊎ (nat_eq w v ≡ false)) [
  | true ↦ λ e. inl ((Decides-eqb w v).0 e)
  | false ↦ λ e. inr e
] refl

different : (w v : ℕ) → (w ≡ v → ⊥) → nat_eq w v ≡ false
different w v never = false_from_ne_true _ (λ e. never ((Decides-eqb w v).0 e))

-- those of the formula's variables are their own, those of others that are in use are above them, below the next one, and different
pub record AreGiven (vars : ℕ) (names : Names) : Type 0 where
  pub own : (v : ℕ) → v ≤ vars → names.name v ≡ v
  pub above : (v : ℕ) → vars < v → 0 < names.uses v → (vars < names.name v) × (names.name v < names.next)
  pub apart : (v w : ℕ) → vars < v → vars < w → 0 < names.uses v → 0 < names.uses w → names.name v ≡ names.name w → v ≡ w
  pub room : vars < names.next

pub given-first : (vars : ℕ) → AreGiven vars (first_names vars)
given-first vars = record {
  own = λ v h. refl;
  above = λ v h used. absurd (omega arith);
  apart = λ v w h k used other e. e;
  room = omega arith;
}

-- names stay, and no other variable comes into use
fewer-given : (vars : ℕ) (names : Names) (uses : ℕ → ℕ) → AreGiven vars names
    → ((v : ℕ) → vars < v → 0 < uses v → 0 < names.uses v) → AreGiven vars (record names { uses = uses })
fewer-given vars names uses g used = record {
  own = g.own;
  above = λ v h u. g.above v h (used v h u);
  apart = λ v w h k u x e. g.apart v w h k (used v h u) (used w k x) e;
  room = g.room;
}

pub given-left : (vars : ℕ) (names : Names) (v : ℕ) → AreGiven vars names → AreGiven vars (left names v)
given-left vars names v g = fewer-given vars names (with_value names.uses v (names.uses v - 1)) g (λ w above used.
    elim (same-or-other w v) [
      | inl same ↦
          let now : with_value names.uses v (names.uses v - 1) w ≡ names.uses v - 1 =
          subst (λ (k : ℕ). with_value names.uses v (names.uses v - 1) k ≡ names.uses v - 1) (sym same)
          (at-value names.uses v (names.uses v - 1)) in
          let was : names.uses w ≡ names.uses v = ap names.uses same in
          omega arith
      | inr other ↦
          let now : with_value names.uses v (names.uses v - 1) w ≡ names.uses w = at-other names.uses v (names.uses v - 1) w other in
          omega arith
    ])

given-known : (vars : ℕ) (names : Names) (v : ℕ) → AreGiven vars names → IsKnown vars names v → AreGiven vars (entered_as false names v)
given-known vars names v g known = fewer-given vars names (with_value names.uses v (names.uses v + 1)) g (λ w above used.
    elim (same-or-other w v) [
      | inl same ↦ elim known [
        | inl own ↦ let is : w ≡ v = same in absurd (omega arith)
        | inr before ↦ let was : names.uses w ≡ names.uses v = ap names.uses same in omega arith
      ]
      | inr other ↦
          let now : with_value names.uses v (names.uses v + 1) w ≡ names.uses w = at-other names.uses v (names.uses v + 1) w other in
          omega arith
    ])

module _ (vars : ℕ) (names : Names) (v : ℕ) (g : AreGiven vars names) (past : vars < v) where
  abbrev after : Names
  after = entered_as true names v

  name-here : after.name v ≡ names.next
  name-here = at-value names.name v names.next

  name-there : (w : ℕ) → nat_eq w v ≡ false → after.name w ≡ names.name w
  name-there w other = at-other names.name v names.next w other

  used-there : (w : ℕ) → nat_eq w v ≡ false → 0 < after.uses w → 0 < names.uses w
  used-there w other used =
      let now : after.uses w ≡ names.uses w = at-other names.uses v (names.uses v + 1) w other in
      omega arith

  given-new : AreGiven vars after
  given-new = record {
    own = λ w h. name-there w (different w v (λ e. let is : w ≡ v = e in omega arith)) ∙ g.own w h;
    above = λ w h used. elim (same-or-other w v) [
      | inl same ↦
          let now : after.name w ≡ names.next = ap after.name same ∙ name-here in
          let room : vars < names.next = g.room in
          (omega arith, omega arith)
      | inr other ↦
          let now : after.name w ≡ names.name w = name-there w other in
          let was = g.above w h (used-there w other used) in
          let low : vars < names.name w = was.0 in
          let high : names.name w < names.next = was.1 in
          (omega arith, omega arith)
    ];
    apart = λ w u h k used x e. elim (same-or-other w v) [
      | inl same ↦ elim (same-or-other u v) [
        | inl also ↦ same ∙ sym also
        | inr other ↦ absurd (clash u other k x (sym (ap after.name same ∙ name-here) ∙ e ∙ name-there u other))
      ]
      | inr other ↦ elim (same-or-other u v) [
        | inl also ↦ absurd (clash w other h used (sym (ap after.name also ∙ name-here) ∙ sym e ∙ name-there w other))
        | inr too ↦ g.apart w u h k (used-there w other used) (used-there u too x) (sym (name-there w other) ∙ e ∙ name-there u too)
      ]
    ];
    room = let room : vars < names.next = g.room in omega arith;
  }
    where
      clash : (u : ℕ) → nat_eq u v ≡ false → vars < u → 0 < after.uses u → names.next ≡ names.name u → ⊥
      clash u other h x e =
          let high : names.name u < names.next = (g.above u h (used-there u other x)).1 in
          omega arith

pub given-entered : (vars : ℕ) (names : Names) (v : ℕ) → AreGiven vars names → AreGiven vars (entered vars names v)
given-entered vars names v g =
    elim (is_new vars names v) as (λ b. is_new vars names v ≡ b → AreGiven vars (entered_as b names v)) [
      | true ↦ λ new. given-new vars names v g (known-new vars names v new).0
      | false ↦ λ known. given-known vars names v g (is-known vars names v known)
    ] refl

pub given-all_entered : (vars : ℕ) (names : Names) (clause : List ℤ) → AreGiven vars names → AreGiven vars (all_entered vars names clause)
given-all_entered vars names [] g = g
given-all_entered vars names (x ∷ xs) g = given-all_entered vars (entered vars names (nat_abs x)) xs (given-entered vars names (nat_abs x)
    g)

pub given-all_left : (vars : ℕ) (names : Names) (clause : List ℤ) → AreGiven vars names → AreGiven vars (all_left names clause)
given-all_left vars names [] g = g
given-all_left vars names (x ∷ xs) g = given-all_left vars (left names (nat_abs x)) xs (given-left vars names (nat_abs x) g)
