-- What is left to show of `take_pushes`.
use Rattle.std.proofs.Common.{◌+◌, map, drop, ap, ◌∙◌}
use Rattle.std.specs.Prelude.{slice_index_or}
use Rattle.schedule_plan.specs.declared.plan.Move.TheVariants.{Push}
use Rattle.schedule_plan.specs.ScheduleText.{taken}
use Rattle.schedule_plan.proofs.Standing.{taken_first, taken_refused}
use Rattle.schedule_plan.proofs.ScheduleWants.{taken_free, first_left}
use Rattle.schedule_plan.proofs.TakesError.{error_is, takes_error, drop_first}
use Rattle.schedule_plan.proofs.schedule.read.take_pushes.Goals as goal

pub returns-in_err-push-clause-takes : goal.returns-in_err-push-clause-takes
returns-in_err-push-clause-takes c =
    let formula = c.args.formula.now in
    let number = slice_index_or c.args.numbers.now c.numbers.number-index 0 in
    let more = map Push (drop (c.numbers.number-index + 1) c.args.numbers.now) in
    let error = error_is c.from_residual.result c.in_err-push.field-0.0 c.from_residual.ensures.1 in
    takes_error c.from_residual.result c.in_err-push.field-0.0 _ _ c.args.line c.push.new.self.moves.items c.push.new.self.moves.items error
    c.in_err-push.ensures.takes
    (λ kind fails. c.numbers.invariant.rest
    ∙ ap (λ l. taken formula c.numbers.judge.moves.items (map Push l))
    (drop_first c.args.numbers.now c.numbers.number-index 0 c.numbers-test.true)
    ∙ taken_refused formula c.numbers.judge.moves.items (Push number) more kind fails)

pub numbers-preserved : goal.numbers-preserved
numbers-preserved c =
    let formula = c.args.formula.now in
    let number = slice_index_or c.args.numbers.now c.numbers.number-index 0 in
    let now = c.numbers.judge.moves.items in
    let more = map Push (drop (c.numbers.number-index + 1) c.args.numbers.now) in
    record {
      stands = c.in_ok-push.ensures.stands;
      rest = c.numbers.invariant.rest
          ∙ ap (λ l. taken formula now (map Push l)) (drop_first c.args.numbers.now c.numbers.number-index 0 c.numbers-test.true)
          ∙ taken_first formula now c.push.new.self.moves.items (Push number) more c.in_ok-push.ensures.takes;
      memory = λ _. c.numbers.invariant.memory (first_left formula now Push c.args.numbers.now c.numbers.number-index c.numbers-test.true
          (taken_free formula now c.push.new.self.moves.items (Push number) c.in_ok-push.ensures.takes));
    }
