-- What the loop of `write_answers` keeps.
use Rattle.std.proofs.Common.{◌≡◌, ◌+◌, drop}
use Rattle.answer_text.proofs.Parts.{Underway}
use Rattle.solver_cli.specs.Replies.{answers_from}
use Rattle.solver_cli.proofs.replies.write_answers.Given as goal

abbrev pub invariant-loop-place : goal.invariant-loop-place
invariant-loop-place g l = record {
  underway : Underway g.S.Sink.tells (g.S.Sink.channel l.fn.sink) (g.S.Sink.channel l.sink) (answers_from 1 l.answers)
      (answers_from (l.place + 1) (drop l.place l.answers));
  beside : g.S.Sink.beside l.sink ≡ g.S.Sink.beside l.fn.sink;
}
