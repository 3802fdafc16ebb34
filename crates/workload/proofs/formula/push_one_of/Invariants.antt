-- What the loops of `push_one_of` keep.
use Rattle.std.proofs.Common.{◌≡◌, take}
use Rattle.workload.specs.Board.{one_of}
use Rattle.workload.proofs.formula.push_one_of.Given as goal

abbrev pub invariant-loop-variable : goal.invariant-loop-variable
invariant-loop-variable l = l.builder ≡ record l.fn.builder { begun = one_of (take l.variable-index l.variables) }
