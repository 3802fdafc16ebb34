-- What the loops of `emit_literals` keep.
use Rattle.std.proofs.Common.{◌≡◌, take, Ok}
use Rattle.std.specs.List.{flat_map}
use Rattle.host_io.specs.Emitted.{Emits}
use Rattle.lrat_write.specs.LineText.{spaced_literal}
use Rattle.lrat_write.proofs.numbers.emit_literals.Given as goal

abbrev pub invariant-loop-literal : goal.invariant-loop-literal
invariant-loop-literal g l =
    Emits g.S.Sink.tells (g.S.Sink.channel l.fn.sink) (g.S.Sink.channel l.sink) l.fn.held.items l.held.items
    (flat_map spaced_literal (take l.literal-index l.literals)) (Ok tt)
    × (g.S.Sink.beside l.sink ≡ g.S.Sink.beside l.fn.sink)
