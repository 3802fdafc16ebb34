-- What the loops of `write_numbers` keep.
use Rattle.std.proofs.Common.{◌≡◌, [], length}
use Rattle.proof_trim.specs.Core.{core_text}
use Rattle.proof_trim.proofs.Emitting.{Spells}
use Rattle.proof_trim.proofs.core_numbers.write_numbers.Given as goal

-- with the text of the rest, what was emitted is the whole text
abbrev pub invariant-numbers : goal.invariant-numbers
invariant-numbers g l = record {
  spells : Spells g.S.Sink.tells (g.S.Sink.channel l.fn.sink) (g.S.Sink.channel l.sink) [] l.held.items (core_text l.row)
      (core_text l.fn.row);
  beside : g.S.Sink.beside l.sink ≡ g.S.Sink.beside l.fn.sink;
}

abbrev pub decreases-numbers : goal.decreases-numbers
decreases-numbers g l = length l.row
