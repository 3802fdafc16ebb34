-- The essential parts of a function of some levels, numbered by how many of these are fixed, and by what is fixed.
use Rattle.std.proofs.Common.{◌≡◌, ◌∙◌, ◌<◌, ◌≤◌, ◌+◌, ◌-◌, ℕ, zero, suc, Bool, true, false, List, [], ◌∷◌, Contains, length, refl}
use Rattle.std.proofs.Common.{sym, ap}
use Rattle.std.proofs.Common.{subst, arith, inl, inr}
use Rattle.std.specs.Prelude.{nat_lt, if◌then◌else◌}
use Rattle.std.proofs.lemmas.Bool.{cases_lt, lt-ltb, le-ltb}
use Rattle.node_table.specs.Value.{IsSubfunction, Levels, fixed_to}
use Rattle.bdd_terms.specs.Parts.{IsEssential}
use Rattle.parity_terms.specs.Numbered.{AreNumbered, DependsOn}

abbrev pub one_if : Bool → ℕ
one_if true = 1
one_if false = 0

-- how many of the levels are before this one
abbrev pub before : List ℕ → ℕ → ℕ
before [] level = 0
before (own ∷ more) level = one_if (nat_lt own level) + before more level

one_at_most : (b : Bool) → one_if b ≤ 1
one_at_most true = omega arith
one_at_most false = omega arith

pub before_few : (levels : List ℕ) (level : ℕ) → before levels level ≤ length levels
before_few [] level = omega arith
before_few (own ∷ more) level = omega (arith, one_at_most (nat_lt own level), before_few more level)

-- two tests agree on a list
abbrev pub Agree : List ℕ → (ℕ → Bool) → (ℕ → Bool) → Type 0
Agree levels one other = (level : ℕ) → Contains levels level → one level ≡ other level

pub first_or_more : (own : ℕ) (more : List ℕ) (one other : ℕ → Bool) → one own ≡ other own → Agree more one other → Agree (own ∷ more) one
    other
first_or_more own more one other first rest level (zero, small, at) = ap one (sym at) ∙ first ∙ ap other at
first_or_more own more one other first rest level (suc k, small, at) = rest level (k, omega (arith, small), at)

pub head_agrees : (own : ℕ) (more : List ℕ) (one other : ℕ → Bool) → Agree (own ∷ more) one other → one own ≡ other own
head_agrees own more one other agree = agree own (zero, omega arith, refl)

pub tail_agrees : (own : ℕ) (more : List ℕ) (one other : ℕ → Bool) → Agree (own ∷ more) one other → Agree more one other
tail_agrees own more one other agree level there = agree level (suc there.0, let small = there.1 in omega (arith, small), there.2)

-- a later level has no fewer before it
pub rises : (own first later : ℕ) → first ≤ later → one_if (nat_lt own first) ≤ one_if (nat_lt own later)
rises own first later less = elim (cases_lt own first) [
  | inl below ↦ omega (arith, ap one_if (lt-ltb own first below), ap one_if (lt-ltb own later (omega (arith, below, less))))
  | inr above ↦ omega (arith, ap one_if (le-ltb own first above))
]

pub before_rises : (levels : List ℕ) (first later : ℕ) → first ≤ later → before levels first ≤ before levels later
before_rises [] first later less = omega arith
before_rises (own ∷ more) first later less = omega (arith, rises own first later less, before_rises more first later less)

one_if_same : (a b : Bool) → one_if a ≡ one_if b → a ≡ b
one_if_same true true same = refl
one_if_same false false same = refl
one_if_same true false same = absurd (omega (arith, same))
one_if_same false true same = absurd (omega (arith, same))

same_rising : (levels : List ℕ) (first later : ℕ) → first ≤ later → before levels first ≡ before levels later
    → Agree levels (λ level. nat_lt level first) (λ level. nat_lt level later)
same_rising [] first later less same = λ level there. let small = there.1 in absurd (omega (arith, small))
same_rising (own ∷ more) first later less same =
    let head = rises own first later less in
    let rest = before_rises more first later less in
    first_or_more own more (λ level. nat_lt level first) (λ level. nat_lt level later)
    (one_if_same (nat_lt own first) (nat_lt own later) (omega (arith, head, rest, same)))
    (same_rising more first later less (omega (arith, head, rest, same)))

-- as many before both: the same ones
pub same_before : (levels : List ℕ) (one other : ℕ) → before levels one ≡ before levels other
    → Agree levels (λ level. nat_lt level one) (λ level. nat_lt level other)
same_before levels one other same = elim (cases_lt one other) [
  | inl less ↦ same_rising levels one other (omega (arith, less)) same
  | inr more ↦ λ level there. sym (same_rising levels other one more (sym same) level there)
]

-- all are before it
pub all_before : (levels : List ℕ) (level : ℕ) → before levels level ≡ length levels → Agree levels (λ own. nat_lt own level) (λ own. true)
all_before [] level all = λ own there. let small = there.1 in absurd (omega (arith, small))
all_before (own ∷ more) level all =
    let few = before_few more level in
    first_or_more own more (λ own. nat_lt own level) (λ own. true)
    (one_if_same (nat_lt own level) true (let most = one_at_most (nat_lt own level) in omega (arith, all, few, most)))
    (all_before more level (let most = one_at_most (nat_lt own level) in omega (arith, all, few, most)))

-- where it is before the level, it has the fixed value, else the other one
pub is_fixed : (level own : ℕ) (fixed a : Levels) → nat_lt own level ≡ true → fixed_to level fixed a own ≡ fixed own
is_fixed level own fixed a is = ap (λ (b : Bool). if b then fixed own else a own) is

pub is_open : (level own : ℕ) (fixed a : Levels) → nat_lt own level ≡ false → fixed_to level fixed a own ≡ a own
is_open level own fixed a is = ap (λ (b : Bool). if b then fixed own else a own) is

-- The number of a part is that of what is fixed, behind the numbers of the parts where fewer levels are.
module _ (levels : List ℕ) (f : Levels → Bool) (depends : DependsOn levels f) (size offset : ℕ → ℕ)
    (steps : (count : ℕ) → offset count + size count ≤ offset (suc count))
    (state : ℕ → Levels → ℕ)
    (few : (level : ℕ) (fixed : Levels) → state level fixed < size (before levels level))
    (same : (one other : ℕ) (fixed_one fixed_other : Levels)
    → Agree levels (λ level. nat_lt level one) (λ level. nat_lt level other) → state one fixed_one ≡ state other fixed_other
    → IsEssential (λ a. f (fixed_to one fixed_one a)) → IsEssential (λ a. f (fixed_to other fixed_other a))
    → (a : Levels) → f (fixed_to one fixed_one a) ≡ f (fixed_to other fixed_other a)) where
  next : (one count : ℕ) → count ≡ suc one → offset one + size one ≤ offset count
  next one count is = subst (λ n. offset one + size one ≤ offset n) (sym is) (steps one)

  far : (one more other : ℕ) → other ≡ suc one + more → offset one + size one ≤ offset other
  far one zero other is = next one other (omega (arith, is))
  far one (suc more) other is =
      let rest = far one more (suc one + more) refl in
      let last = next (suc one + more) other (omega (arith, is)) in
      omega (arith, rest, last)

  offset_less : (one other : ℕ) → one < other → offset one + size one ≤ offset other
  offset_less one other less = far one (other - suc one) other (omega (arith, less))

  abbrev number_of : ℕ → Levels → ℕ
  number_of level fixed = offset (before levels level) + state level fixed

  essential_fixed : (part : Levels → Bool) (is : IsSubfunction f part) → IsEssential part → IsEssential
      (λ a. f (fixed_to is.level is.fixed a))
  essential_fixed part is essential b constant = essential b (λ a. is.same a ∙ constant a)

  -- an essential part leaves some level open
  some_open : (level : ℕ) (fixed : Levels) → IsEssential (λ a. f (fixed_to level fixed a)) → before levels level < length levels
  some_open level fixed essential = elim (cases_lt (before levels level) (length levels)) [
    | inl less ↦ less
    | inr all ↦
        let few = before_few levels level in
        let fixed_all = all_before levels level (omega (arith, all, few)) in
        absurd (essential (f (fixed_to level fixed fixed)) (λ a. depends (fixed_to level fixed a) (fixed_to level fixed fixed)
        (λ own there. is_fixed level own fixed a (fixed_all own there) ∙ sym (is_fixed level own fixed fixed (fixed_all own there)))))
  ]

  same_numbers : (one other : ℕ) (fixed_one fixed_other : Levels) → number_of one fixed_one ≡ number_of other fixed_other
      → (before levels one ≡ before levels other) × (state one fixed_one ≡ state other fixed_other)
  same_numbers one other fixed_one fixed_other is =
      let few_one = few one fixed_one in let few_other = few other fixed_other in
      elim (cases_lt (before levels one) (before levels other)) [
        | inl less ↦ let far_off = offset_less (before levels one) (before levels other) less in
            absurd (omega (arith, is, far_off, few_one))
        | inr more ↦ elim (cases_lt (before levels other) (before levels one)) [
          | inl less ↦ let far_off = offset_less (before levels other) (before levels one) less in
              absurd (omega (arith, is, far_off, few_other))
          | inr too ↦
              let counts : before levels one ≡ before levels other = omega (arith, more, too) in
              (counts, let offsets = ap offset counts in omega (arith, is, offsets))
        ]
      ]

  pub fixed_numbered : AreNumbered (IsSubfunction f) (offset (length levels))
  fixed_numbered = record {
    number = λ part is essential. number_of is.level is.fixed;
    below = λ part is essential.
        let open_some = some_open is.level is.fixed (essential_fixed part is essential) in
        let far_off = offset_less (before levels is.level) (length levels) open_some in
        let own = few is.level is.fixed in
        omega (arith, far_off, own);
    same = λ one other is_one is_other one_varies other_varies is a.
        let parts = same_numbers is_one.level is_other.level is_one.fixed is_other.fixed is in
        is_one.same a
        ∙ same is_one.level is_other.level is_one.fixed is_other.fixed (same_before levels is_one.level is_other.level parts.0) parts.1
        (essential_fixed one is_one one_varies) (essential_fixed other is_other other_varies) a
        ∙ sym (is_other.same a);
  }
