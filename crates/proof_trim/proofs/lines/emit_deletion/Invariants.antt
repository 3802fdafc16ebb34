-- What the loop of `emit_deletion` keeps.
use Rattle.std.proofs.Common.{◌≡◌, ◌≤◌, false, length}
use Rattle.proof_trim.specs.Lines.{text_from}
use Rattle.proof_trim.specs.Numbers.{has}
use Rattle.proof_trim.specs.Trimmed.{is_there}
use Rattle.proof_trim.specs.declared.place.Place.TheVariants.{Deleted}
use Rattle.proof_trim.proofs.Emitting.{Spells}
use Rattle.proof_trim.proofs.lines.emit_deletion.Given as goal

-- with the text of the rest, what was emitted is the whole text
abbrev pub invariant-numbers : goal.invariant-numbers
invariant-numbers g l = record {
  spells : Spells g.S.Sink.tells (g.S.Sink.channel l.fn.sink) (g.S.Sink.channel l.sink) l.fn.held l.held
      (text_from (is_there l.count (has l.numbers)) (Deleted l.id l.begun) l.row)
      (text_from (is_there l.count (has l.numbers)) (Deleted l.id false) l.fn.row);
  beside : g.S.Sink.beside l.sink ≡ g.S.Sink.beside l.fn.sink;
  shorter : length l.row ≤ length l.fn.row;
}

abbrev pub decreases-numbers : goal.decreases-numbers
decreases-numbers g l = length l.row
