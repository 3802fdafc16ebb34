-- The hypergraph of a formula: its vertices are the variables, its edges the sets of variables of its clauses. (Dechter:
-- Constraint Processing, 2003, section 2.1.) Of an order it is promised that it has each variable, so this and the formula's
-- size are all that contracts see.
use Rattle.std.specs.Prelude.{ℕ, ◌+◌, length, sum_by, min}
use Rattle.cnf_base.specs.Formula.{Formula}

-- how many vertices it has, and how large the formula is
pub record Hypergraph : Type 0 where
  pub vars : ℕ
  pub size : ℕ

-- how large a formula is: its variables and its literals, up to the greatest number of 64 bits
abbrev pub size_of : Formula → ℕ
size_of problem = min (problem.vars + sum_by length problem.clauses) 18446744073709551615
