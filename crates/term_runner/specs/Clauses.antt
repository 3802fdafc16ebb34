-- Clauses that decide a formula before any diagram: an empty one, and those that always hold.
use Rattle.std.specs.Prelude.{ℕ, ◌+◌, Bool, ℤ, neg_ℤ, List, [], ◌∷◌, length}
use Rattle.std.specs.List.{list_any}
use Rattle.std.specs.Ordering.{int_eq}
use Rattle.cnf_base.specs.declared.step.Step.TheVariants.{Add}
use Rattle.cnf_base.specs.ProofText.{line_of_step}
pub use Rattle.cnf_base.specs.EmptyClause.{first_empty, has_empty_clause}

-- a clause with both signs of a variable
abbrev pub is_tautology : List ℤ → Bool
is_tautology clause = list_any (λ literal. list_any (λ other. int_eq other (neg_ℤ literal)) clause) clause

-- the one line that refutes clauses one of which is empty: the next number, and the first empty clause as its hint
abbrev pub one_line : List (List ℤ) → List ℕ
one_line clauses = line_of_step (Add (length clauses + 1) [] (first_empty clauses ∷ []) [])
