-- What the loops of `emit_clauses` keep.
use Rattle.std.proofs.Common.{◌≡◌, ◌-◌, Ok}
use Rattle.std.specs.Prelude.{map}
use Rattle.std.specs.List.{filter, flat_map}
use Rattle.cnf_base.specs.Order.{natural}
use Rattle.workload.specs.Board.{square, stays}
use Rattle.workload.specs.Schedule.{clause_numbers}
use Rattle.workload.specs.Cursor.{StandsWithin}
use Rattle.host_io.specs.Emitted.{Emits}
use Rattle.workload.specs.Texts.{spaced}
use Rattle.workload.proofs.schedule.emit_clauses.Given as goal

abbrev pub invariant-loop-row : goal.invariant-loop-row
invariant-loop-row g l = record {
  emits : Emits g.S.Sink.tells (g.S.Sink.channel l.fn.sink) (g.S.Sink.channel l.sink) l.fn.held.items l.held.items
      (flat_map spaced (flat_map (clause_numbers l.n) (filter (stays l.n) (map (λ row. square row l.column) (natural (l.row - 1))))))
      (Ok tt);
  beside : g.S.Sink.beside l.sink ≡ g.S.Sink.beside l.fn.sink;
  cursor : StandsWithin l.n l.row l.column l.cursor;
}
