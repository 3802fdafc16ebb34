-- What the loops of `terms_in_column` keep.
use Rattle.std.proofs.Common.{◌≡◌, ◌+◌, ◌-◌, ◌*◌, ◌≤◌, length}
use Rattle.std.specs.Prelude.{map, nat_le, if◌then◌else◌}
use Rattle.std.specs.List.{filter, flat_map}
use Rattle.cnf_base.specs.Order.{natural}
use Rattle.workload.specs.Board.{square, stays}
use Rattle.workload.specs.Schedule.{clause_numbers}
use Rattle.workload.proofs.cursor.terms_in_column.Given as goal

abbrev pub invariant-loop-row : goal.invariant-loop-row
invariant-loop-row l = record {
  count : l.count ≡ length (flat_map (clause_numbers l.n) (filter (stays l.n) (map (λ row. square row l.column) (natural (l.row - 1)))))
      + (if nat_le 2 l.column then 1 else 0);
  few : l.count ≤ 1 + 7 * (l.row - 1);
}
