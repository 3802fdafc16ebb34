-- What the loops of `board_moves` keep.
use Rattle.std.proofs.Common.{◌≡◌, ◌-◌}
use Rattle.std.specs.List.{flat_map}
use Rattle.cnf_base.specs.Order.{natural}
use Rattle.workload.specs.Schedule.{column_commands, moves_of}
use Rattle.workload.specs.Cursor.{StandsAt}
use Rattle.workload.proofs.columns.board_moves.Given as goal

abbrev pub invariant-loop-column : goal.invariant-loop-column
invariant-loop-column l = record {
  moves : l.moves.items ≡ flat_map moves_of (flat_map (column_commands l.n) (natural (l.column - 1)));
  cursor : StandsAt l.n l.column l.cursor;
}
