-- What the loops of `value` keep.
use Rattle.std.proofs.Common.{◌≡◌, ◌+◌, ◌<◌, length}
use Rattle.cnf_base.specs.Truth.{assignment_of}
use Rattle.reconstruction.specs.Cells.{cell_value}
use Rattle.reconstruction.proofs.cells.value.Given as goal

abbrev pub invariant-down : goal.invariant-down
invariant-down l = record {
  within : l.key < length l.cells + 2;
  same : cell_value l.cells (assignment_of l.values) l.key ≡ cell_value l.cells (assignment_of l.values) l.fn.key;
}

abbrev pub decreases-down : goal.decreases-down
decreases-down l = l.key
