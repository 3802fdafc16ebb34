-- What is left to show of `write_answers`.
use Rattle.std.proofs.Common.{◌+◌, drop, refl, ◌∙◌}
use Rattle.answer_text.proofs.Parts.{failed_within, went_on}
use Rattle.solver_cli.specs.Replies.{answers_from}
use Rattle.solver_cli.proofs.Numbered.{next_answer}
use Rattle.solver_cli.proofs.replies.write_answers.Goals as goal

pub returns-in_err-write_numbered-clause-writes : goal.returns-in_err-write_numbered-clause-writes
returns-in_err-write_numbered-clause-writes g c =
    failed_within c.loop-place.invariant.underway c.in_err-write_numbered.ensures.writes refl c.from_residual.ensures.0
    (answers_from (c.loop-place.place + 1 + 1) (drop (c.loop-place.place + 1) c.args.answers.now))
    (next_answer c.loop-place.place c.args.answers.now c.index-answers-place.result c.index-answers-place.result c.loop-place-test.true
    c.index-answers-place.is)

pub loop-place-preserved : goal.loop-place-preserved
loop-place-preserved g c = record {
  underway = went_on c.loop-place.invariant.underway c.in_ok-write_numbered.ensures.writes refl
      (answers_from (c.loop-place.place + 1 + 1) (drop (c.loop-place.place + 1) c.args.answers.now))
      (next_answer c.loop-place.place c.args.answers.now c.index-answers-place.result c.index-answers-place.result c.loop-place-test.true
      c.index-answers-place.is);
  beside = c.in_ok-write_numbered.ensures.beside ∙ c.loop-place.invariant.beside;
}
