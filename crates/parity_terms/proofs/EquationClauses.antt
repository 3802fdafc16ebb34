-- An equation's own clauses: their numbers, and what they say.
use Rattle.std.proofs.Common.{◌≡◌, ◌∙◌, ◌<◌, ◌≤◌, ◌+◌, ◌++◌, ◌||◌, ℕ, suc, Bool, true, false, not, List, [], ◌∷◌, All}
use Rattle.std.proofs.Common.{length, map}
use Rattle.std.proofs.Common.{length-append, refl, ap, arith}
use Rattle.std.specs.Prelude.{ℤ, Some, if◌then◌else◌, pos, neg_ℤ}
use Rattle.std.specs.Bool.{beq}
use Rattle.std.specs.List.{list_all, list_any}
use Rattle.std.specs.Option.{unwrap_or}
use Rattle.std.proofs.lemmas.Bool.{and_parts}
use Rattle.std.proofs.lemmas.List.{length-map}
use Rattle.std.proofs.lemmas.List.Elements.{All-cons, All-nil}
use Rattle.std.proofs.lemmas.List.Sorted.{All-permutation, length_permutation}
use Rattle.cnf_base.specs.Truth.{Assignment}
use Rattle.parity_equations.specs.declared.equations.Equation.{Equation}
use Rattle.parity_equations.specs.Equations.{denied, first_from, has_exactly}
use Rattle.parity_equations.specs.Laws.{ArePositive, ClausesSay}
use Rattle.parity_equations.specs.Sums.{all_hold, sum_over}
use Rattle.parity_equations.specs.Walk.{AreRisingUpTo, IsEquationOf}
use Rattle.parity_nodes.specs.Sums.{exclusive_or, odd_over, sum_is}
use Rattle.parity_terms.specs.Clauses.{AreNumbers}

sums_same : (variables : List ℕ) (a : Assignment) → sum_over variables a ≡ odd_over variables a
sums_same [] a = refl
sums_same (variable ∷ more) a = ap (exclusive_or (a variable)) (sums_same more a)

positive : (last first : ℕ) (variables : List ℕ) → 0 < first → AreRisingUpTo last first variables → ArePositive variables
positive last first [] some are = tt
positive last first (variable ∷ more) some are = (omega (arith, some, are.0), positive last (variable + 1) more (omega arith) are.1.1)

-- some clause denies a wrong sum
some_denied : (bit : Bool) (variable : ℕ) (more : List ℕ) → 0 < length (denied bit (variable ∷ more))
some_denied true variable [] = omega arith
some_denied false variable [] = omega arith
some_denied bit variable (next ∷ more) =
    let some = some_denied bit next more in
    let highs = map (λ rest. pos variable ∷ rest) (denied bit (next ∷ more)) in
    let lows = map (λ rest. neg_ℤ (pos variable) ∷ rest) (denied (not bit) (next ∷ more)) in
    let whole : length (highs ++ lows) ≡ length highs + length lows = length-append highs lows in
    let part : length highs ≡ length (denied bit (next ∷ more)) =
    length-map (denied bit (next ∷ more)) (λ rest. pos variable ∷ rest) in
    omega (arith, some, whole, part)

-- the first clause with these literals has a number
first_within : (m : ℕ) (clauses : List (List ℤ)) (literals : List ℤ) → list_any (has_exactly literals) clauses ≡ true
    → (m ≤ unwrap_or (first_from m clauses literals) 0) × (unwrap_or (first_from m clauses literals) 0 < m + length clauses)
first_within m [] literals has = absurd (let e : false ≡ true = has in cc)
first_within m (clause ∷ more) literals has = go (has_exactly literals clause) has (first_within (m + 1) more literals)
  where
    go : (b : Bool) → (b || list_any (has_exactly literals) more) ≡ true
        → (list_any (has_exactly literals) more ≡ true → ((m + 1) ≤ unwrap_or (first_from (m + 1) more literals) 0)
        × (unwrap_or (first_from (m + 1) more literals) 0 < m + 1 + length more))
        → (m ≤ unwrap_or (if b then Some m else first_from (m + 1) more literals) 0)
        × (unwrap_or (if b then Some m else first_from (m + 1) more literals) 0 < m + suc (length more))
    go true is rest = (omega arith, omega arith)
    go false is rest = let here = rest is in (omega (arith, here.0), omega (arith, here.1))

all_within : (clauses wrongs : List (List ℤ)) → list_all (λ wrong. list_any (has_exactly wrong) clauses) wrongs ≡ true
    → All (λ number. (1 ≤ number) × (number ≤ length clauses)) (map (λ wrong. unwrap_or (first_from 1 clauses wrong) 0) wrongs)
all_within clauses [] has = All-nil (λ number. (1 ≤ number) × (number ≤ length clauses))
all_within clauses (wrong ∷ more) has =
    let parts = and_parts (list_any (has_exactly wrong) clauses) _ has in
    let here = first_within 1 clauses wrong parts.0 in
    All-cons (λ number. (1 ≤ number) × (number ≤ length clauses)) (unwrap_or (first_from 1 clauses wrong) 0)
    (map (λ other. unwrap_or (first_from 1 clauses other) 0) more)
    (here.0, omega (arith, here.1)) (all_within clauses more parts.1)

are_numbers : (most : ℕ) (numbers : List ℕ) → All (λ number. (1 ≤ number) × (number ≤ most)) numbers → AreNumbers most numbers
are_numbers most [] all = tt
are_numbers most (number ∷ more) all =
    let here = all 0 0 (omega arith) in
    (here.0, (here.1, are_numbers most more (λ k d small. all (suc k) d (omega (arith, small)))))

module _ (vars : ℕ) (clauses : List (List ℤ)) (equation : Equation) (is : IsEquationOf vars clauses equation) where
  pub equation_numbers : AreNumbers (length clauses) equation.clauses.items
  equation_numbers =
      are_numbers (length clauses) equation.clauses.items
      (All-permutation (λ number. (1 ≤ number) × (number ≤ length clauses)) _ equation.clauses.items is.own.each
      (all_within clauses (denied equation.bit equation.variables.items) is.has))

  pub equation_some : 0 < length equation.clauses.items
  equation_some =
      let same = length_permutation _ equation.clauses.items is.own.each in
      let firsts = length-map (denied equation.bit equation.variables.items) (λ wrong. unwrap_or (first_from 1 clauses wrong) 0) in
      let some = go equation.bit equation.variables.items is.some in
      omega (arith, same, firsts, some)
    where
      go : (bit : Bool) (variables : List ℕ) → 0 < length variables → 0 < length (denied bit variables)
      go bit [] some = absurd (omega (arith, some))
      go bit (variable ∷ more) some = some_denied bit variable more

  pub equation_value : ClausesSay → (a : Assignment) → all_hold clauses equation.clauses.items a
      ≡ sum_is equation.bit equation.variables.items a
  equation_value say a =
      say clauses equation.variables.items equation.bit equation.clauses.items
      (positive vars 1 equation.variables.items (omega arith) is.rising) is.has is.own a
      ∙ ap (λ b. beq b equation.bit) (sums_same equation.variables.items a)
