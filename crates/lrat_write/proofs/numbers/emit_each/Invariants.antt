-- What the loops of `emit_each` keep.
use Rattle.std.proofs.Common.{◌≡◌, take, Ok}
use Rattle.std.specs.List.{flat_map}
use Rattle.host_io.specs.Emitted.{Emits}
use Rattle.lrat_write.specs.LineText.{led_id, lead}
use Rattle.lrat_write.proofs.numbers.emit_each.Given as goal

abbrev pub invariant-loop-id : goal.invariant-loop-id
invariant-loop-id g l =
    Emits g.S.Sink.tells (g.S.Sink.channel l.fn.sink) (g.S.Sink.channel l.sink) l.fn.held.items l.held.items
    (flat_map (led_id (lead l.minus)) (take l.id-index l.ids)) (Ok tt)
    × (g.S.Sink.beside l.sink ≡ g.S.Sink.beside l.fn.sink)
