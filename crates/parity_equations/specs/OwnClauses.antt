-- The clauses of a formula's equations.
use Rattle.std.specs.Prelude.{◌≡◌, ◌≤◌, ◌-◌, ℕ, ℤ, List, [], Contains, length, map, nat_abs, slice_index_or}
use Rattle.std.specs.List.{All, flat_map}
use Rattle.parity_equations.specs.declared.equations.Equation.{Equation}
use Rattle.parity_equations.specs.Equations.{equations}
use Rattle.parity_equations.specs.LiteralSet.{most_variables}
use Rattle.parity_equations.specs.Walk.{IsEquationOf, listed}

-- The clauses of an equation are over its variables, of which there are few; and no clause is one of two equations, or twice one of the same:
-- together these have no more than the formula.
pub record OwnClauses : Type 0 where
  pub few : (vars : ℕ) (clauses : List (List ℤ)) (equation : Equation) → IsEquationOf vars clauses equation
      → length equation.variables.items ≤ most_variables
  pub over : (vars : ℕ) (clauses : List (List ℤ)) (equation : Equation) → IsEquationOf vars clauses equation → (number : ℕ)
      → Contains equation.clauses.items number → (literal : ℤ) → Contains (slice_index_or clauses (number - 1) []) literal
      → Contains equation.variables.items (nat_abs literal)
  pub no_more : (vars : ℕ) (clauses : List (List ℤ)) (found : List Equation) → map listed found ≡ equations clauses
      → All (IsEquationOf vars clauses) found → length (flat_map (λ equation. equation.clauses.items) found) ≤ length clauses
