-- What the loops of `column_order` keep.
use Rattle.std.proofs.Common.{◌≡◌, ◌-◌}
use Rattle.std.specs.Prelude.{map}
use Rattle.std.specs.List.{flat_map}
use Rattle.cnf_base.specs.Order.{natural}
use Rattle.workload.specs.Board.{number, column_dominoes}
use Rattle.workload.proofs.columns.column_order.Given as goal

abbrev pub invariant-loop-column : goal.invariant-loop-column
invariant-loop-column l = l.order.items ≡ map (number l.n) (flat_map (column_dominoes l.n) (natural (l.column - 1)))
