-- What the loops of `sums_behind` keep.
use Rattle.std.proofs.Common.{◌≡◌, ◌≤◌, Bool, None, drop, length}
use Rattle.node_table.specs.Made.{MakesOnly}
use Rattle.node_table.specs.Progress.{Steps}
use Rattle.node_table.specs.Table.{AddsNone}
use Rattle.parity_nodes.specs.Sums.{AreSums, sum_is}
use Rattle.parity_nodes.proofs.sums.sums_behind.Given as goal

abbrev pub invariant-levels : goal.invariant-levels
invariant-levels g l = record {
  some : 1 ≤ l.i;
  within : l.i ≤ length l.set;
  sums : AreSums l.table.graph (drop l.i l.set) l.sums;
  made : (bit : Bool) → MakesOnly l.fn.table.graph l.table.graph (sum_is bit l.set);
  steps : Steps l.fn.table l.table 0 None;
  none_added : AddsNone l.fn.table l.table;
  retired : l.table.retired ≡ l.fn.table.retired;
}

abbrev pub decreases-levels : goal.decreases-levels
decreases-levels g l = l.i
