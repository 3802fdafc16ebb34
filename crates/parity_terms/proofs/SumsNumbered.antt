-- The essential parts of a sum of variables, two for each level, and those of two sums together, four for each.
use Rattle.std.proofs.Common.{◌≡◌, ◌∙◌, ◌<◌, ◌+◌, ◌*◌, ◌&&◌, ℕ, zero, suc, Bool, true, false, not, List, [], ◌∷◌, Contains, length}
use Rattle.std.proofs.Common.{refl, sym, ap}
use Rattle.std.proofs.Common.{arith}
use Rattle.std.specs.Prelude.{nat_lt, if◌then◌else◌}
use Rattle.std.specs.Bool.{beq}
use Rattle.node_table.specs.Value.{IsSubfunction, Levels, fixed_to}
use Rattle.parity_nodes.specs.Sums.{exclusive_or, odd_over}
use Rattle.parity_terms.specs.Numbered.{AreNumbered, DependsOn}
use Rattle.parity_terms.proofs.FixedParts.{fixed_numbered}

abbrev one_if : Bool → ℕ
one_if true = 1
one_if false = 0

one_below : (b : Bool) → one_if b < 2
one_below true = omega arith
one_below false = omega arith

one_same : (a b : Bool) → one_if a ≡ one_if b → a ≡ b
one_same true true same = refl
one_same false false same = refl
one_same true false same = absurd (omega (arith, same))
one_same false true same = absurd (omega (arith, same))

-- a fixed variable stays in one sum, another in the other one
moved : (b fixed own one other : Bool) → exclusive_or (if b then fixed else own) (exclusive_or one other)
    ≡ exclusive_or (exclusive_or (b && fixed) one) (exclusive_or (not b && own) other)
moved true true own true true = refl
moved true true own true false = refl
moved true true own false true = refl
moved true true own false false = refl
moved true false own true true = refl
moved true false own true false = refl
moved true false own false true = refl
moved true false own false false = refl
moved false fixed true true true = refl
moved false fixed true true false = refl
moved false fixed true false true = refl
moved false fixed true false false = refl
moved false fixed false true true = refl
moved false fixed false true false = refl
moved false fixed false false true = refl
moved false fixed false false false = refl

-- Each variable has a level.
module _ (at : ℕ → ℕ) where
  -- whether these have an odd sum, by levels
  abbrev pub odd_at : List ℕ → Levels → Bool
  odd_at variables a = odd_over variables (λ variable. a (at variable))

  -- the sum of those whose levels are fixed, and of the others
  abbrev fixed_odd : List ℕ → ℕ → Levels → Bool
  fixed_odd [] level fixed = false
  fixed_odd (own ∷ more) level fixed = exclusive_or (nat_lt (at own) level && fixed (at own)) (fixed_odd more level fixed)

  abbrev open_odd : List ℕ → ℕ → Levels → Bool
  open_odd [] level a = false
  open_odd (own ∷ more) level a = exclusive_or (not (nat_lt (at own) level) && a (at own)) (open_odd more level a)

  odd_split : (variables : List ℕ) (level : ℕ) (fixed a : Levels) → odd_at variables (fixed_to level fixed a)
      ≡ exclusive_or (fixed_odd variables level fixed) (open_odd variables level a)
  odd_split [] level fixed a = refl
  odd_split (own ∷ more) level fixed a =
      ap (exclusive_or (fixed_to level fixed a (at own))) (odd_split more level fixed a)
      ∙ moved (nat_lt (at own) level) (fixed (at own)) (a (at own)) (fixed_odd more level fixed) (open_odd more level a)

  open_same : (variables : List ℕ) (one other : ℕ) (a : Levels)
      → ((variable : ℕ) → Contains variables variable → nat_lt (at variable) one ≡ nat_lt (at variable) other)
      → open_odd variables one a ≡ open_odd variables other a
  open_same [] one other a agree = refl
  open_same (own ∷ more) one other a agree =
      let here = agree own (zero, omega arith, refl) in
      let rest = open_same more one other a (λ variable there. agree variable
      (suc there.0, let small = there.1 in omega (arith, small), there.2)) in
      (λ i. exclusive_or (not (here i) && a (at own)) (rest i))

  odd_depends : (variables : List ℕ) (a b : Levels) → ((variable : ℕ) → Contains variables variable → a (at variable) ≡ b (at variable))
      → odd_at variables a ≡ odd_at variables b
  odd_depends [] a b agree = refl
  odd_depends (own ∷ more) a b agree =
      let here = agree own (zero, omega arith, refl) in
      let rest = odd_depends more a b (λ variable there. agree variable (suc there.0, let small = there.1 in omega (arith, small), there.2))
      in
      (λ i. exclusive_or (here i) (rest i))

  -- that the sum is this bit
  abbrev pub sum_at : Bool → List ℕ → Levels → Bool
  sum_at bit variables a = beq (odd_at variables a) bit

  sum_same : (bit : Bool) (variables : List ℕ) (one other : ℕ) (fixed_one fixed_other a : Levels)
      → ((variable : ℕ) → Contains variables variable → nat_lt (at variable) one ≡ nat_lt (at variable) other)
      → fixed_odd variables one fixed_one ≡ fixed_odd variables other fixed_other
      → sum_at bit variables (fixed_to one fixed_one a) ≡ sum_at bit variables (fixed_to other fixed_other a)
  sum_same bit variables one other fixed_one fixed_other a agree same =
      let rest = open_same variables one other a agree in
      ap (λ o. beq o bit) (odd_split variables one fixed_one a ∙ (λ i. exclusive_or (same i) (rest i))
      ∙ sym (odd_split variables other fixed_other a))

  -- these variables' levels are some of these
  abbrev pub AreAt : List ℕ → List ℕ → Type 0
  AreAt levels variables = (variable : ℕ) → Contains variables variable → Contains levels (at variable)

  sum_depends : (levels : List ℕ) (bit : Bool) (variables : List ℕ) → AreAt levels variables → DependsOn levels (sum_at bit variables)
  sum_depends levels bit variables within a b agree =
      ap (λ o. beq o bit) (odd_depends variables a b (λ variable there. agree (at variable) (within variable there)))

  pub sum_numbered : (levels : List ℕ) (bit : Bool) (variables : List ℕ) → AreAt levels variables
      → AreNumbered (IsSubfunction (sum_at bit variables)) (2 * length levels)
  sum_numbered levels bit variables within =
      fixed_numbered levels (sum_at bit variables) (sum_depends levels bit variables within) (λ count. 2) (λ count. 2 * count)
      (λ count. omega arith) (λ level fixed. one_if (fixed_odd variables level fixed))
      (λ level fixed. one_below (fixed_odd variables level fixed))
      (λ one other fixed_one fixed_other agree same one_varies other_varies a. sum_same bit variables one other fixed_one fixed_other a
      (λ variable there. agree (at variable) (within variable there))
      (one_same (fixed_odd variables one fixed_one) (fixed_odd variables other fixed_other) same))

  -- two sums together
  module _ (levels : List ℕ) (bit bit_other : Bool) (variables others : List ℕ) (within : AreAt levels variables)
      (within_others : AreAt levels others) where
    abbrev pub both_at : Levels → Bool
    both_at a = sum_at bit variables a && sum_at bit_other others a

    abbrev both_odd : ℕ → Levels → ℕ
    both_odd level fixed = 2 * one_if (fixed_odd variables level fixed) + one_if (fixed_odd others level fixed)

    both_few : (level : ℕ) (fixed : Levels) → both_odd level fixed < 4
    both_few level fixed =
        omega (arith, one_below (fixed_odd variables level fixed), one_below (fixed_odd others level fixed))

    parts_same : (one other : ℕ) (fixed_one fixed_other : Levels) → both_odd one fixed_one ≡ both_odd other fixed_other
        → (fixed_odd variables one fixed_one ≡ fixed_odd variables other fixed_other)
        × (fixed_odd others one fixed_one ≡ fixed_odd others other fixed_other)
    parts_same one other fixed_one fixed_other same =
        let a = one_below (fixed_odd others one fixed_one) in
        let b = one_below (fixed_odd others other fixed_other) in (
          one_same (fixed_odd variables one fixed_one) (fixed_odd variables other fixed_other) (omega (arith, same, a, b)),
          one_same (fixed_odd others one fixed_one) (fixed_odd others other fixed_other) (omega (arith, same, a, b)),
        )

    pub both_sums_numbered : AreNumbered (IsSubfunction both_at) (4 * length levels)
    both_sums_numbered =
        fixed_numbered levels both_at
        (λ a b agree. let first = sum_depends levels bit variables within a b agree in
        let second = sum_depends levels bit_other others within_others a b agree in (λ i. first i && second i))
        (λ count. 4) (λ count. 4 * count) (λ count. omega arith) both_odd both_few
        (λ one other fixed_one fixed_other agree same one_varies other_varies a.
        let parts = parts_same one other fixed_one fixed_other same in
        let first = sum_same bit variables one other fixed_one fixed_other a
        (λ variable there. agree (at variable) (within variable there)) parts.0 in
        let second = sum_same bit_other others one other fixed_one fixed_other a
        (λ variable there. agree (at variable) (within_others variable there)) parts.1 in
        (λ i. first i && second i))
