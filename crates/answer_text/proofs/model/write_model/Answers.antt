-- What is left to show of `write_model`.
use Rattle.std.proofs.Common.{◌+◌, drop, refl, ◌∙◌, false}
use Rattle.std.specs.Prelude.{codes}
use Rattle.answer_text.specs.Model.{wrapped, words_from}
use Rattle.answer_text.proofs.Parts.{went_on, ended, failed_within}
use Rattle.answer_text.proofs.Words.{next_word, last_word}
use Rattle.answer_text.proofs.model.write_model.Goals as goal

pub returns-in_err-width-clause-writes : goal.returns-in_err-width-clause-writes
returns-in_err-width-clause-writes g c =
    failed_within c.loop-place.invariant.underway c.in_err-width.ensures.writes refl c.from_residual-in_err-width.ensures.0 _
    (next_word c.loop-place.width c.loop-place.place _ c.args.values.now false c.loop-place-test.true refl)

pub loop-place-preserved : goal.loop-place-preserved
loop-place-preserved g c = record {
  underway = went_on c.loop-place.invariant.underway c.in_ok-width.ensures.writes refl
      (wrapped c.in_ok-width.width (words_from (c.loop-place.place + 1 + 1) (drop (c.loop-place.place + 1) c.args.values.now)))
      (next_word c.loop-place.width c.loop-place.place c.in_ok-width.width c.args.values.now false c.loop-place-test.true
      c.in_ok-width.ensures.width);
  narrow = c.in_ok-width.ensures.narrow;
  beside = c.in_ok-width.ensures.beside ∙ c.loop-place.invariant.beside;
}

pub returns-in_err-write_word-clause-writes : goal.returns-in_err-write_word-clause-writes
returns-in_err-write_word-clause-writes g c =
    failed_within c.loop-place.invariant.underway c.in_err-write_word.ensures.writes refl c.from_residual-in_err-write_word.ensures.0
    (codes "\n")
    (last_word c.loop-place.width c.loop-place.place c.args.values.now c.loop-place-test.false)

pub returns-clause-writes : goal.returns-clause-writes
returns-clause-writes g c =
    ended (went_on c.loop-place.invariant.underway c.in_ok-write_word.ensures.writes refl (codes "\n")
    (last_word c.loop-place.width c.loop-place.place c.args.values.now c.loop-place-test.false)) c.write_all-2.ensures.writes
