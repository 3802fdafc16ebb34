-- What the loops of `first_cursor` keep.
use Rattle.std.proofs.Common.{◌≡◌, ℕ, ◌-◌, ◌*◌, ◌<◌, ◌≤◌, length}
use Rattle.std.specs.Prelude.{slice_index}
use Rattle.std.specs.List.{flat_map}
use Rattle.cnf_base.specs.Order.{natural}
use Rattle.workload.specs.Board.{square, row_squares}
use Rattle.workload.specs.Schedule.{squares_before, clause_count}
use Rattle.workload.proofs.cursor.first_cursor.Given as goal

abbrev pub invariant-loop-row : goal.invariant-loop-row
invariant-loop-row l = record {
  rows : length l.cursor ≡ 101;
  count : l.count ≡ clause_count l.n (flat_map (row_squares l.n) (natural (l.row - 1)));
  few : l.count ≤ 700 * (l.row - 1);
  small : (row : ℕ) → 0 < row → row < l.row → slice_index l.cursor row ≤ 70000;
  done : (row : ℕ) → 0 < row → row < l.row → slice_index l.cursor row ≡ clause_count l.n (squares_before l.n (square row 1));
}
