-- What the loop of `emit_codes` keeps.
use Rattle.std.proofs.Common.{◌≡◌, ◌≤◌, ℕ, Bool, length}
use Rattle.proof_trim.specs.Lines.{text_from}
use Rattle.proof_trim.proofs.Emitting.{Spells}
use Rattle.proof_trim.proofs.lines.emit_codes.Given as goal

-- with the text of the rest, what was emitted is the whole text
abbrev pub invariant-codes : goal.invariant-codes
invariant-codes g l = record {
  spells : (there : ℕ → Bool) → Spells g.S.Sink.tells (g.S.Sink.channel l.fn.sink) (g.S.Sink.channel l.sink) l.fn.held l.held
      (text_from there l.place l.row) (text_from there l.place l.fn.row);
  beside : g.S.Sink.beside l.sink ≡ g.S.Sink.beside l.fn.sink;
  shorter : length l.row ≤ length l.fn.row;
}

abbrev pub decreases-codes : goal.decreases-codes
decreases-codes g l = length l.row
