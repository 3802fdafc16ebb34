-- What the loops of `push_not_both` keep.
use Rattle.std.proofs.Common.{◌≡◌, ◌+◌, ◌≤◌, ◌++◌, length, take}
use Rattle.std.specs.Prelude.{map}
use Rattle.workload.specs.Board.{not_both}
use Rattle.workload.proofs.formula.push_not_both.Given as goal

abbrev pub invariant-loop-other : goal.invariant-loop-other
invariant-loop-other l = record {
  is : l.builder ≡ record l.fn.builder { clauses = l.fn.builder.clauses ++ map (not_both l.variable) (take l.other-index l.others) };
  few : length l.builder.clauses ≤ length l.fn.builder.clauses + l.other-index;
}
