-- What the loops of `emit_groups` keep.
use Rattle.std.proofs.Common.{◌≡◌, take, Ok}
use Rattle.std.specs.List.{flat_map}
use Rattle.host_io.specs.Emitted.{Emits}
use Rattle.lrat_write.specs.LineText.{group_text}
use Rattle.lrat_write.proofs.numbers.emit_groups.Given as goal

abbrev pub invariant-loop-group : goal.invariant-loop-group
invariant-loop-group g l =
    Emits g.S.Sink.tells (g.S.Sink.channel l.fn.sink) (g.S.Sink.channel l.sink) l.fn.held.items l.held.items
    (flat_map group_text (take l.group-index l.groups)) (Ok tt)
    × (g.S.Sink.beside l.sink ≡ g.S.Sink.beside l.fn.sink)
