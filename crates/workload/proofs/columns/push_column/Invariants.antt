-- What the loops of `push_column` keep.
use Rattle.std.proofs.Common.{◌≡◌, ◌-◌, ◌++◌}
use Rattle.std.specs.Prelude.{map}
use Rattle.std.specs.List.{filter, flat_map}
use Rattle.cnf_base.specs.Order.{natural}
use Rattle.workload.specs.Board.{square, stays, number, down_first}
use Rattle.workload.proofs.columns.push_column.Given as goal

abbrev pub invariant-loop-row : goal.invariant-loop-row
invariant-loop-row l =
    l.order.items ≡ l.fn.order.items
    ++ map (number l.n) (flat_map (down_first l.n) (filter (stays l.n) (map (λ row. square row l.column) (natural (l.row - 1)))))
