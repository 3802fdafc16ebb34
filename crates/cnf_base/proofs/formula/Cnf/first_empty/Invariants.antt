-- What the loops of `Cnf::first_empty` keep.
use Rattle.std.proofs.Common.{◌≡◌, false, take}
use Rattle.cnf_base.specs.EmptyClause.{has_empty_clause}
use Rattle.cnf_base.proofs.formula.Cnf.first_empty.Given as goal

abbrev pub invariant-loop-i : goal.invariant-loop-i
invariant-loop-i l = has_empty_clause (take l.i l.self.clauses) ≡ false
