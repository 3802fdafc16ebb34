-- What a trail holds as literals are put at its end and taken back.
use Rattle.std.proofs.Common.{◌≡◌, ℕ, zero, suc, ◌+◌, ◌-◌, ◌<◌, Bool, true, false, not, ◌||◌, ◌&&◌, ℤ, pos, List, [], ◌∷◌, ◌++◌, length}
use Rattle.std.proofs.Common.{take, drop, get_or, int_eq, inl, inr, refl, sym, ap, ◌∙◌, subst, arith, length-append}
use Rattle.std.proofs.lemmas.Bool.{both_ways, cases_eq, cases_lt, false_from_ne_true, or_cases, or_left, or_right}
use Rattle.std.proofs.lemmas.List.{take-take, take-append-drop, take-append-le, drop-append-le, drop-take, drop_all, length-take}
use Rattle.std.proofs.lemmas.List.Folds.{list_any-append}
use Rattle.lrat_rules.specs.Chain.{literals_of}
use Rattle.drat_checker.specs.Trail.{AreOnce, IsAt}
use Rattle.drat_checker.proofs.FalseSets.{eq-int_eq, int_eq-true}

or_turn : (a b : Bool) → (a || (b || false)) ≡ (b || a)
or_turn true true = refl
or_turn true false = refl
or_turn false true = refl
or_turn false false = refl

-- of two tests, neither
or_neither : (a b : Bool) → a ≡ false → b ≡ false → (a || b) ≡ false
or_neither true b e f = e
or_neither false b e f = f

front_left : (a b : Bool) → (a || b) ≡ false → a ≡ false
front_left true b e = e
front_left false b e = refl

-- one literal more at the end
pub literals_of-last : (literals : List ℤ) (literal x : ℤ) → literals_of (literals ++ literal ∷ []) x
    ≡ (int_eq x literal || literals_of literals x)
literals_of-last literals literal x = list_any-append (int_eq x) literals (literal ∷ [])
    ∙ or_turn (literals_of literals x) (int_eq x literal)

same_literal : (literals : List ℤ) (literal x : ℤ) (b : Bool) → int_eq x literal ≡ true → literals_of literals literal ≡ b
    → literals_of literals x ≡ b
same_literal literals literal x b same is = ap (literals_of literals) (int_eq-true x literal same) ∙ is

-- a front holds no more than the whole, and so does a rest
module _ (literals : List ℤ) (place : ℕ) (x : ℤ) where
  pub parts : literals_of literals x ≡ (literals_of (take place literals) x || literals_of (drop place literals) x)
  parts = ap (λ l. literals_of l x) (sym (take-append-drop place literals))
      ∙ list_any-append (int_eq x) (take place literals) (drop place literals)

  front_absent : literals_of literals x ≡ false → literals_of (take place literals) x ≡ false
  front_absent absent = front_left (literals_of (take place literals) x) (literals_of (drop place literals) x) (sym parts ∙ absent)

clash : (b : Bool) → b ≡ true → b ≡ false → {P : Type 0} → P
clash b t f = cc

-- a new literal at the end leaves each once
pub once-last : (literals : List ℤ) (literal : ℤ) → ((place : ℕ) (x : ℤ) → literals_of (take place literals) x ≡ true
    → literals_of (drop place literals) x ≡ false)
    → literals_of literals literal ≡ false → (place : ℕ) (x : ℤ) → literals_of (take place (literals ++ literal ∷ [])) x ≡ true
    → literals_of (drop place (literals ++ literal ∷ [])) x ≡ false
once-last literals literal once new place x stands =
    elim (cases_lt (length literals) place) [
      | inl lt ↦ ap (λ l. literals_of l x) (drop_all place (literals ++ literal
          ∷ []) (omega (arith, length-append literals (literal ∷ []))))
      | inr le ↦
          let front : literals_of (take place literals) x ≡ true = ap (λ l. literals_of l x)
          (sym (take-append-le place literals (literal ∷ []) le)) ∙ stands in
          ap (λ l. literals_of l x) (drop-append-le place literals (literal ∷ []) le) ∙ literals_of-last (drop place literals) literal x
          ∙ or_neither (int_eq x literal) (literals_of (drop place literals) x)
          (elim (int_eq x literal) as (λ b. int_eq x literal ≡ b → b ≡ false) [
            | true ↦ λ same. clash (literals_of (take place literals) x) front
                (front_absent literals place x (same_literal literals literal x false same new))
            | false ↦ λ other. refl
          ] refl)
          (once place x front)
    ]

-- so does a front
pub once-front : (literals : List ℤ) (count : ℕ) → ((place : ℕ) (x : ℤ) → literals_of (take place literals) x ≡ true
    → literals_of (drop place literals) x ≡ false)
    → (place : ℕ) (x : ℤ) → literals_of (take place (take count literals)) x ≡ true → literals_of (drop place (take count literals)) x
    ≡ false
once-front literals count once place x stands =
    elim (cases_lt count place) [
      | inl lt ↦ ap (λ l. literals_of l x) (drop_all place (take count literals) (omega (arith, length-take count literals)))
      | inr le ↦
          let front : literals_of (take place literals) x ≡ true = ap (λ l. literals_of l x) (sym (take-take place count literals le))
          ∙ stands in
          let all : place + (count - place) ≡ count = omega arith in
          ap (λ n. literals_of (drop place (take n literals)) x) (sym all)
          ∙ ap (λ l. literals_of l x) (drop-take place (count - place) literals)
          ∙ front_absent (drop place literals) (count - place) x (once place x front)
    ]

-- the front is what is left where the rest is taken back
left : (front rest : Bool) → (front ≡ true → rest ≡ false) → (not rest && (front || rest)) ≡ front
left true true apart = let no : true ≡ false = apart refl in cc
left true false apart = refl
left false true apart = refl
left false false apart = refl

pub front_left_over : (literals : List ℤ) (count : ℕ) → ((place : ℕ) (x : ℤ) → literals_of (take place literals) x ≡ true
    → literals_of (drop place literals) x ≡ false)
    → (x : ℤ) → (not (literals_of (drop count literals) x) && literals_of literals x) ≡ literals_of (take count literals) x
front_left_over literals count once x =
    ap (λ b. not (literals_of (drop count literals) x) && b) (parts literals count x)
    ∙ left (literals_of (take count literals) x) (literals_of (drop count literals) x) (once count x)

-- the literal at a place isn't one of those before it
at-place : (literals : List ℤ) (k : ℕ) → k < length literals → literals_of (drop k literals) (get_or literals k (pos 0)) ≡ true
at-place [] k within = absurd (omega (arith, within))
at-place (x ∷ xs) zero within = or_left _ _ (eq-int_eq x x refl)
at-place (x ∷ xs) (suc k) within = at-place xs k (omega (arith, within))

pub at-any : (literals : List ℤ) (k : ℕ) → k < length literals → literals_of literals (get_or literals k (pos 0)) ≡ true
at-any literals k within =
    ap (λ (l : List ℤ). literals_of l (get_or literals k (pos 0))) (sym (take-append-drop k literals))
    ∙ list_any-append (int_eq (get_or literals k (pos 0))) (take k literals) (drop k literals)
    ∙ or_right (literals_of (take k literals) (get_or literals k (pos 0))) _ (at-place literals k within)

pub new-at : (literals : List ℤ) → AreOnce literals → (k : ℕ) → k < length literals
    → literals_of (take k literals) (get_or literals k (pos 0)) ≡ false
new-at literals once k within =
    false_from_ne_true _ (λ there. both_ways _ (once.once k (get_or literals k (pos 0)) there) (at-place literals k within))

-- a literal of a front
pub at-front : (literals : List ℤ) (k count : ℕ) → k < count → k < length literals
    → literals_of (take count literals) (get_or literals k (pos 0)) ≡ true
at-front [] k count before within = absurd (omega (arith, within))
at-front (x ∷ xs) k zero before within = absurd (omega (arith, before))
at-front (x ∷ xs) zero (suc count) before within = or_left _ _ (eq-int_eq x x refl)
at-front (x ∷ xs) (suc k) (suc count) before within =
    or_right (int_eq (get_or xs k (pos 0)) x) _ (at-front xs k count (omega (arith, before)) (omega (arith, within)))

-- each literal stands at a place, and at no other
pub found-at : (literals : List ℤ) (x : ℤ) → literals_of literals x ≡ true → (k : ℕ) × IsAt literals x k
found-at [] x m = cc
found-at (y ∷ ys) x m =
    elim (or_cases (int_eq x y) _ m) [
      | inl here ↦ (0, record { within = omega arith; own = sym (int_eq-true x y here) })
      | inr later ↦
          let rest : (k : ℕ) × IsAt ys x k = found-at ys x later in
          let within : rest.0 < length ys = rest.1.within in
          (suc rest.0, record { within = omega (arith, within); own = rest.1.own })
    ]

not-before : (literals : List ℤ) → AreOnce literals → (x : ℤ) (j k : ℕ) → IsAt literals x j → IsAt literals x k → j < k → ⊥
not-before literals once x j k first later lt =
    both_ways (literals_of (take k literals) x)
    (subst (λ (y : ℤ). literals_of (take k literals) y ≡ false) later.own (new-at literals once k later.within))
    (subst (λ (y : ℤ). literals_of (take k literals) y ≡ true) first.own (at-front literals j k lt first.within))

pub once-at : (literals : List ℤ) → AreOnce literals → (x : ℤ) (j k : ℕ) → IsAt literals x j → IsAt literals x k → j ≡ k
once-at literals once x j k first later =
    elim (cases_eq j k) [
      | inl same ↦ same
      | inr apart ↦ elim (cases_lt j k) [
        | inl lt ↦ absurd (not-before literals once x j k first later lt)
        | inr le ↦ elim (cases_eq k j) [
          | inl same ↦ sym same
          | inr other ↦ let lt : k < j = omega (arith, le, other) in absurd (not-before literals once x k j later first lt)
        ]
      ]
    ]
