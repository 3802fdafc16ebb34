-- What the loops of `emit_columns` keep.
use Rattle.std.proofs.Common.{◌≡◌, ◌-◌, Ok}
use Rattle.std.specs.List.{flat_map}
use Rattle.cnf_base.specs.Order.{natural}
use Rattle.workload.specs.Schedule.{column_commands}
use Rattle.workload.specs.Cursor.{StandsAt}
use Rattle.host_io.specs.Emitted.{Emits}
use Rattle.workload.specs.Texts.{command_line}
use Rattle.workload.proofs.schedule.emit_columns.Given as goal

abbrev pub invariant-loop-column : goal.invariant-loop-column
invariant-loop-column g l = record {
  emits : Emits g.S.Sink.tells (g.S.Sink.channel l.fn.sink) (g.S.Sink.channel l.sink) l.fn.held.items l.held.items
      (flat_map (command_line l.way) (flat_map (column_commands l.n) (natural (l.column - 1)))) (Ok tt);
  beside : g.S.Sink.beside l.sink ≡ g.S.Sink.beside l.fn.sink;
  cursor : StandsAt l.n l.column l.cursor;
}
