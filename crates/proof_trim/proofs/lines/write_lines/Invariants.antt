-- What the loops of `write_lines` keep.
use Rattle.std.proofs.Common.{◌≡◌, [], length}
use Rattle.proof_trim.specs.Lines.{text_from}
use Rattle.proof_trim.specs.Numbers.{has}
use Rattle.proof_trim.specs.Trimmed.{is_there}
use Rattle.proof_trim.specs.declared.place.Place.TheVariants.{Between}
use Rattle.proof_trim.proofs.Emitting.{Spells}
use Rattle.proof_trim.proofs.lines.write_lines.Given as goal

-- with the text of the rest, what was emitted is the whole text
abbrev pub invariant-steps : goal.invariant-steps
invariant-steps g l = record {
  spells : Spells g.S.Sink.tells (g.S.Sink.channel l.fn.sink) (g.S.Sink.channel l.sink) [] l.held
      (text_from (is_there l.count (has l.numbers)) Between l.row) (text_from (is_there l.count (has l.numbers)) Between l.fn.row);
  beside : g.S.Sink.beside l.sink ≡ g.S.Sink.beside l.fn.sink;
}

abbrev pub decreases-steps : goal.decreases-steps
decreases-steps g l = length l.row
