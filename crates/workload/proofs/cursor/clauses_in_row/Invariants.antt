-- What the loops of `clauses_in_row` keep.
use Rattle.std.proofs.Common.{◌≡◌, ◌-◌, ◌*◌, ◌≤◌}
use Rattle.workload.specs.Board.{front_of_row}
use Rattle.workload.specs.Schedule.{clause_count}
use Rattle.workload.proofs.cursor.clauses_in_row.Given as goal

abbrev pub invariant-loop-column : goal.invariant-loop-column
invariant-loop-column l = record {
  count : l.count ≡ clause_count l.n (front_of_row l.n l.row (l.column - 1));
  few : l.count ≤ 7 * (l.column - 1);
}
