-- What the loops of `emit_ids` keep.
use Rattle.std.proofs.Common.{◌≡◌, ◌++◌, ℕ, List, Ok, length}
use Rattle.host_io.specs.Emitted.{Emits}
use Rattle.lrat_write.specs.LineText.{ids_text, lead}
use Rattle.lrat_write.proofs.numbers.emit_ids.Given as goal

abbrev pub invariant-pieces : goal.invariant-pieces
invariant-pieces g l = (front : List ℕ) × ((front ++ l.rest ≡ l.ids)
    × (Emits g.S.Sink.tells (g.S.Sink.channel l.fn.sink) (g.S.Sink.channel l.sink) l.fn.held.items l.held.items
    (ids_text (lead l.minus) front) (Ok tt)
    × (g.S.Sink.beside l.sink ≡ g.S.Sink.beside l.fn.sink)))

abbrev pub decreases-pieces : goal.decreases-pieces
decreases-pieces g l = length l.rest
