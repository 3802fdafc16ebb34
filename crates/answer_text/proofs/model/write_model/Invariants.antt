-- What the loops of `write_model` keep.
use Rattle.std.proofs.Common.{◌≡◌, ◌+◌, ◌≤◌, drop}
use Rattle.answer_text.specs.Model.{max_width, words_from, wrapped, model_text}
use Rattle.answer_text.proofs.Parts.{Underway}
use Rattle.answer_text.proofs.model.write_model.Given as goal

abbrev pub invariant-loop-place : goal.invariant-loop-place
invariant-loop-place g l = record {
  underway : Underway g.S.Sink.tells (g.S.Sink.channel l.fn.sink) (g.S.Sink.channel l.sink) (model_text l.values)
      (wrapped l.width (words_from (l.place + 1) (drop l.place l.values)));
  narrow : l.width ≤ max_width;
  beside : g.S.Sink.beside l.sink ≡ g.S.Sink.beside l.fn.sink;
}
