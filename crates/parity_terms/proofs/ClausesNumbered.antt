-- The essential parts of a clause, one for each level, and those of any function of few levels: one for each choice of values for the
-- first of them.
use Rattle.std.proofs.Common.{◌≡◌, ◌∙◌, ◌<◌, ◌≤◌, ◌+◌, ◌-◌, ◌*◌, ◌^◌, ◌&&◌, ◌||◌, ℕ, zero, suc, Bool, true, false, not, ℤ, pos, negsuc}
use Rattle.std.proofs.Common.{List, [], ◌∷◌}
use Rattle.std.proofs.Common.{Contains, length, refl, sym, ap, arith, inl, inr}
use Rattle.std.specs.Prelude.{nat_abs, nat_lt, if◌then◌else◌}
use Rattle.std.specs.List.{list_any}
use Rattle.std.proofs.lemmas.Bool.{cases_Bool}
use Rattle.std.proofs.lemmas.Nat.{pow_pos}
use Rattle.std.proofs.Math.Nat.{two-pow-succ}
use Rattle.cnf_base.specs.Truth.{clause_holds, literal_holds}
use Rattle.node_table.specs.Value.{IsSubfunction, Levels, fixed_to}
use Rattle.bdd_terms.specs.Parts.{IsEssential}
use Rattle.parity_terms.specs.Numbered.{AreNumbered, DependsOn}
use Rattle.parity_terms.proofs.FixedParts.{Agree, before, first_or_more, fixed_numbered, head_agrees, is_fixed, is_open, tail_agrees}

abbrev one_if : Bool → ℕ
one_if true = 1
one_if false = 0

one_most : (b : Bool) → one_if b ≤ 1
one_most true = omega arith
one_most false = omega arith

one_same : (a b : Bool) (x y : ℕ) → one_if a + 2 * x ≡ one_if b + 2 * y → (a ≡ b) × (x ≡ y)
one_same true true x y same = (refl, omega (arith, same))
one_same false false x y same = (refl, omega (arith, same))
one_same true false x y same = absurd (omega (arith, same))
one_same false true x y same = absurd (omega (arith, same))

-- the values of those levels that are fixed, as a number
abbrev values : List ℕ → ℕ → Levels → ℕ
values [] level fixed = 0
values (own ∷ more) level fixed = if nat_lt own level then one_if (fixed own) + 2 * values more level fixed else values more level fixed

one_more_value : (b value : Bool) (rest count : ℕ) → rest < 2 ^ count
    → (if b then one_if value + 2 * rest else rest) < 2 ^ (one_if b + count)
one_more_value true value rest count few =
    let twice : 2 ^ (1 + count) ≡ 2 ^ count + 2 ^ count = ap (λ n. 2 ^ n) (omega arith) ∙ two-pow-succ count in
    omega (arith, few, twice, one_most value)
one_more_value false value rest count few =
    let same : 2 ^ (0 + count) ≡ 2 ^ count = ap (λ n. 2 ^ n) (omega arith) in
    omega (arith, few, same)

values_few : (levels : List ℕ) (level : ℕ) (fixed : Levels) → values levels level fixed < 2 ^ before levels level
values_few [] level fixed = omega arith
values_few (own ∷ more) level fixed =
    one_more_value (nat_lt own level) (fixed own) (values more level fixed) (before more level) (values_few more level fixed)

-- a level has one value in both
value_same : (b c x y u : Bool) → b ≡ c → (b ≡ true → x ≡ y) → (if b then x else u) ≡ (if c then y else u)
value_same true true x y u same values = values refl
value_same false false x y u same values = refl
value_same true false x y u same values = absurd (let e : true ≡ false = same in cc)
value_same false true x y u same values = absurd (let e : false ≡ true = same in cc)

-- the first level's value, and the number of the rest
parts_of : (b c x y : Bool) (m n : ℕ) → b ≡ c → (if b then one_if x + 2 * m else m) ≡ (if c then one_if y + 2 * n else n)
    → (b ≡ true → x ≡ y) × (m ≡ n)
parts_of true true x y m n same values = let parts = one_same x y m n values in (λ is. parts.0, parts.1)
parts_of false false x y m n same values = (λ is. absurd (let e : false ≡ true = is in cc), values)
parts_of true false x y m n same values = absurd (let e : true ≡ false = same in cc)
parts_of false true x y m n same values = absurd (let e : false ≡ true = same in cc)

values_same : (levels : List ℕ) (one other : ℕ) (fixed_one fixed_other a : Levels)
    → Agree levels (λ level. nat_lt level one) (λ level. nat_lt level other)
    → values levels one fixed_one ≡ values levels other fixed_other
    → Agree levels (fixed_to one fixed_one a) (fixed_to other fixed_other a)
values_same [] one other fixed_one fixed_other a agree same = λ level there. let small = there.1 in absurd (omega (arith, small))
values_same (own ∷ more) one other fixed_one fixed_other a agree same =
    let here = head_agrees own more (λ level. nat_lt level one) (λ level. nat_lt level other) agree in
    let parts = parts_of (nat_lt own one) (nat_lt own other) (fixed_one own) (fixed_other own) (values more one fixed_one)
    (values more other fixed_other) here same in
    first_or_more own more (fixed_to one fixed_one a) (fixed_to other fixed_other a)
    (value_same (nat_lt own one) (nat_lt own other) (fixed_one own) (fixed_other own) (a own) here parts.0)
    (values_same more one other fixed_one fixed_other a
    (tail_agrees own more (λ level. nat_lt level one) (λ level. nat_lt level other) agree) parts.1)

one_at_least : (count : ℕ) → 0 < 2 ^ count
one_at_least count = pow_pos count

-- any function of these levels
pub any_numbered : (levels : List ℕ) (f : Levels → Bool) → DependsOn levels f → AreNumbered (IsSubfunction f) (2 ^ length levels - 1)
any_numbered levels f depends =
    fixed_numbered levels f depends (λ count. 2 ^ count) (λ count. 2 ^ count - 1)
    (λ count. omega (arith, two-pow-succ count, one_at_least count)) (values levels) (values_few levels)
    (λ one other fixed_one fixed_other agree same one_varies other_varies a.
    depends (fixed_to one fixed_one a) (fixed_to other fixed_other a) (values_same levels one other fixed_one fixed_other a agree same))

-- A clause, whose variables have levels.
module _ (at : ℕ → ℕ) where
  abbrev pub clause_at : List ℤ → Levels → Bool
  clause_at clause a = clause_holds (λ variable. a (at variable)) clause

  abbrev is_before : ℕ → ℤ → Bool
  is_before level literal = nat_lt (at (nat_abs literal)) level

  -- whether a literal whose level is fixed holds, or another one
  abbrev fixed_holds : List ℤ → ℕ → Levels → Bool
  fixed_holds clause level fixed = list_any (λ literal. is_before level literal && literal_holds (λ variable. fixed (at variable)) literal)
      clause

  abbrev open_holds : List ℤ → ℕ → Levels → Bool
  open_holds clause level a = list_any (λ literal. not (is_before level literal) && literal_holds (λ variable. a (at variable)) literal)
      clause

  -- the value of a literal's variable is all that counts
  literal_same : (literal : ℤ) (a b : Levels) → a (at (nat_abs literal)) ≡ b (at (nat_abs literal))
      → literal_holds (λ variable. a (at variable)) literal ≡ literal_holds (λ variable. b (at variable)) literal
  literal_same (pos n) a b same = same
  literal_same (negsuc n) a b same = ap not same

  literal_split : (literal : ℤ) (level : ℕ) (fixed a : Levels) (b : Bool) → is_before level literal ≡ b
      → literal_holds (λ variable. fixed_to level fixed a (at variable)) literal
      ≡ ((b && literal_holds (λ variable. fixed (at variable)) literal) || (not b && literal_holds (λ variable. a (at variable)) literal))
  literal_split literal level fixed a true is =
      literal_same literal (fixed_to level fixed a) fixed (is_fixed level (at (nat_abs literal)) fixed a is)
      ∙ or_none (literal_holds (λ variable. fixed (at variable)) literal)
    where
      or_none : (b : Bool) → b ≡ (b || false)
      or_none true = refl
      or_none false = refl
  literal_split literal level fixed a false is =
      literal_same literal (fixed_to level fixed a) a (is_open level (at (nat_abs literal)) fixed a is)

  in_turn : (a b c d : Bool) → ((a || b) || (c || d)) ≡ ((a || c) || (b || d))
  in_turn true b c d = refl
  in_turn false true true d = refl
  in_turn false true false d = refl
  in_turn false false c d = refl

  clause_split : (clause : List ℤ) (level : ℕ) (fixed a : Levels)
      → clause_at clause (fixed_to level fixed a) ≡ (fixed_holds clause level fixed || open_holds clause level a)
  clause_split [] level fixed a = refl
  clause_split (literal ∷ more) level fixed a =
      let here = literal_split literal level fixed a (is_before level literal) refl in
      let rest = clause_split more level fixed a in
      (λ i. here i || rest i)
      ∙ in_turn (is_before level literal && literal_holds (λ variable. fixed (at variable)) literal)
      (not (is_before level literal) && literal_holds (λ variable. a (at variable)) literal) (fixed_holds more level fixed)
      (open_holds more level a)

  -- the levels of the clause are some of these
  abbrev pub AreLevelsOf : List ℕ → List ℤ → Type 0
  AreLevelsOf levels clause = (literal : ℤ) → Contains clause literal → Contains levels (at (nat_abs literal))

  rest_within : (levels : List ℕ) (literal : ℤ) (more : List ℤ) → AreLevelsOf levels (literal ∷ more) → AreLevelsOf levels more
  rest_within levels literal more within other there = within other (suc there.0, let small = there.1 in omega (arith, small), there.2)

  pub clause_depends : (levels : List ℕ) (clause : List ℤ) → AreLevelsOf levels clause → DependsOn levels (clause_at clause)
  clause_depends levels [] within a b agree = refl
  clause_depends levels (literal ∷ more) within a b agree =
      let here = literal_same literal a b (agree (at (nat_abs literal)) (within literal (zero, omega arith, refl))) in
      let rest = clause_depends levels more (rest_within levels literal more within) a b agree in
      (λ i. here i || rest i)

  open_same : (levels : List ℕ) (clause : List ℤ) (one other : ℕ) (a : Levels) → AreLevelsOf levels clause
      → Agree levels (λ level. nat_lt level one) (λ level. nat_lt level other)
      → open_holds clause one a ≡ open_holds clause other a
  open_same levels [] one other a within agree = refl
  open_same levels (literal ∷ more) one other a within agree =
      let here = agree (at (nat_abs literal)) (within literal (zero, omega arith, refl)) in
      let rest = open_same levels more one other a (rest_within levels literal more within) agree in
      (λ i. (not (here i) && literal_holds (λ variable. a (at variable)) literal) || rest i)

  -- an essential part has no literal that holds already
  none_fixed : (clause : List ℤ) (level : ℕ) (fixed : Levels) → IsEssential (λ a. clause_at clause (fixed_to level fixed a))
      → fixed_holds clause level fixed ≡ false
  none_fixed clause level fixed essential = elim (cases_Bool (fixed_holds clause level fixed)) [
    | inl some ↦ absurd (essential true (λ a. clause_split clause level fixed a ∙ ap (λ b. b || open_holds clause level a) some))
    | inr none ↦ none
  ]

  pub clause_numbered : (levels : List ℕ) (clause : List ℤ) → AreLevelsOf levels clause
      → AreNumbered (IsSubfunction (clause_at clause)) (length levels)
  clause_numbered levels clause within =
      fixed_numbered levels (clause_at clause) (clause_depends levels clause within) (λ count. 1) (λ count. count) (λ count. omega arith)
      (λ level fixed. 0) (λ level fixed. omega arith)
      (λ one other fixed_one fixed_other agree same one_varies other_varies a.
      let rest = open_same levels clause one other a within agree in
      clause_split clause one fixed_one a
      ∙ (λ i. none_fixed clause one fixed_one one_varies i || rest i)
      ∙ sym (ap (λ b. b || open_holds clause other a) (none_fixed clause other fixed_other other_varies))
      ∙ sym (clause_split clause other fixed_other a))
