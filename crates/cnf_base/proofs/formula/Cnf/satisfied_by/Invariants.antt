-- What the loops of `Cnf::satisfied_by` keep.
use Rattle.std.proofs.Common.{◌≡◌, true, take}
use Rattle.std.specs.List.{list_all}
use Rattle.cnf_base.specs.Truth.{clause_holds, assignment_of}
use Rattle.cnf_base.proofs.formula.Cnf.satisfied_by.Given as goal

abbrev pub invariant-loop-i : goal.invariant-loop-i
invariant-loop-i l = list_all (clause_holds (assignment_of l.values)) (take l.i l.self.clauses) ≡ true
