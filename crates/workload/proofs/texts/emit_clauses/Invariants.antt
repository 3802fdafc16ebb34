-- What the loops of `emit_clauses` keep.
use Rattle.std.proofs.Common.{◌≡◌, take, Ok}
use Rattle.std.specs.List.{flat_map}
use Rattle.workload.specs.Texts.{clause_line}
use Rattle.host_io.specs.Emitted.{Emits}
use Rattle.workload.proofs.texts.emit_clauses.Given as goal

abbrev pub invariant-loop-place : goal.invariant-loop-place
invariant-loop-place g l =
    Emits g.S.Sink.tells (g.S.Sink.channel l.fn.sink) (g.S.Sink.channel l.sink) l.fn.held.items l.held.items
    (flat_map clause_line (take l.place l.formula.clauses)) (Ok tt)
    × (g.S.Sink.beside l.sink ≡ g.S.Sink.beside l.fn.sink)
