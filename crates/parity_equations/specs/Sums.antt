-- What an equation's clauses say: they hold exactly where its sum is its bit.
use Rattle.std.specs.Prelude.{◌-◌, ℕ, Bool, false, ℤ, List, [], ◌∷◌, slice_index_or}
use Rattle.std.specs.List.{list_all}
use Rattle.cnf_base.specs.Truth.{Assignment, clause_holds}
use Rattle.parity_equations.specs.Conflict.{exclusive_or}

-- the sum of these variables, modulo 2
abbrev pub sum_over : List ℕ → Assignment → Bool
sum_over [] a = false
sum_over (variable ∷ more) a = exclusive_or (a variable) (sum_over more a)

-- the clauses of these numbers hold
abbrev pub all_hold : List (List ℤ) → List ℕ → Assignment → Bool
all_hold clauses numbers a = list_all (λ number. clause_holds a (slice_index_or clauses (number - 1) [])) numbers
