-- The least plan that holds something: one clause of one literal, over its variable.
use Rattle.std.specs.Prelude.{ℕ, pos, List, [], ◌∷◌}
use Rattle.cnf_base.specs.Formula.{Formula}

unfoldable pub one_clause : Formula
one_clause = record { vars = 1; clauses = (pos 1 ∷ []) ∷ [] }

abbrev pub one_variable : List ℕ
one_variable = 1 ∷ []
