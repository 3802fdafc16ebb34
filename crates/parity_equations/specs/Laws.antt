-- The laws of equations, each as one statement: functions without work ensure them.
use Rattle.std.specs.Prelude.{◌≡◌, ◌<◌, ℕ, Bool, true, ℤ, List, [], ◌∷◌, map, ⊤}
use Rattle.std.specs.Bool.{beq}
use Rattle.cnf_base.specs.Truth.{Assignment}
use Rattle.parity_equations.specs.Conflict.{AreInConflict, AreRows, AreSpanned, Vector, vector}
use Rattle.parity_equations.specs.Equations.{AreClausesOf, has_equation}
use Rattle.parity_equations.specs.Sums.{all_hold, sum_over}

-- no variable is 0
abbrev pub ArePositive : List ℕ → Type 0
ArePositive [] = ⊤
ArePositive (variable ∷ more) = (0 < variable) × ArePositive more

-- An equation's clauses hold exactly where the sum of its variables is its bit.
abbrev pub ClausesSay : Type 0
ClausesSay = (clauses : List (List ℤ)) (variables : List ℕ) (bit : Bool) (numbers : List ℕ) → ArePositive variables
    → has_equation clauses variables bit ≡ true → AreClausesOf clauses variables bit numbers → (a : Assignment)
    → all_hold clauses numbers a ≡ beq (sum_over variables a) bit

-- Equations that are sums of rows with places of their own aren't in conflict.
abbrev pub Independent : Type 0
Independent = (place_at : ℕ → ℕ) (rows : List Vector) (levels : List ℕ) (equations : List (List ℕ × Bool)) → ((n : ℕ) → 0 < place_at n)
    → AreRows place_at rows levels → AreSpanned rows (map vector equations) → AreInConflict equations → ⊥
