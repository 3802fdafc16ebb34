-- The clauses that were passed are counted.
use Rattle.std.proofs.Common.{◌≡◌, ◌+◌, length, take}
use Rattle.std.specs.Prelude.{sum_by, min}
use Rattle.variable_order.proofs.hypergraph.size_of.Given as goal

abbrev pub invariant-clauses : goal.invariant-clauses
invariant-clauses l = l.size ≡ min (l.formula.vars + sum_by length (take l.clause l.formula.clauses)) 18446744073709551615
