-- What is left to show of `take_variables`.
use Rattle.std.proofs.Common.{◌+◌, map, drop, ap, ◌∙◌}
use Rattle.std.specs.Prelude.{slice_index_or}
use Rattle.schedule_plan.specs.declared.plan.Move.TheVariants.{Exists}
use Rattle.schedule_plan.specs.ScheduleText.{taken}
use Rattle.schedule_plan.proofs.Standing.{taken_first, taken_refused}
use Rattle.schedule_plan.proofs.ScheduleWants.{taken_free, first_left}
use Rattle.schedule_plan.proofs.TakesError.{error_is, takes_error, drop_first}
use Rattle.schedule_plan.proofs.schedule.read.take_variables.Goals as goal

pub returns-in_err-exists-clause-takes : goal.returns-in_err-exists-clause-takes
returns-in_err-exists-clause-takes c =
    let formula = c.args.formula.now in
    let number = slice_index_or c.args.numbers.now c.variables.number-index 0 in
    let more = map Exists (drop (c.variables.number-index + 1) c.args.numbers.now) in
    let error = error_is c.from_residual.result c.in_err-exists.field-0.0 c.from_residual.ensures.1 in
    takes_error c.from_residual.result c.in_err-exists.field-0.0 _ _ c.args.line c.exists.new.self.moves.items c.exists.new.self.moves.items error
    c.in_err-exists.ensures.takes
    (λ kind fails. c.variables.invariant.rest
    ∙ ap (λ l. taken formula c.variables.judge.moves.items (map Exists l))
    (drop_first c.args.numbers.now c.variables.number-index 0 c.variables-test.true)
    ∙ taken_refused formula c.variables.judge.moves.items (Exists number) more kind fails)

pub variables-preserved : goal.variables-preserved
variables-preserved c =
    let formula = c.args.formula.now in
    let number = slice_index_or c.args.numbers.now c.variables.number-index 0 in
    let now = c.variables.judge.moves.items in
    let more = map Exists (drop (c.variables.number-index + 1) c.args.numbers.now) in
    record {
      stands = c.in_ok-exists.ensures.stands;
      rest = c.variables.invariant.rest
          ∙ ap (λ l. taken formula now (map Exists l)) (drop_first c.args.numbers.now c.variables.number-index 0 c.variables-test.true)
          ∙ taken_first formula now c.exists.new.self.moves.items (Exists number) more c.in_ok-exists.ensures.takes;
      memory = λ _. c.variables.invariant.memory (first_left formula now Exists c.args.numbers.now c.variables.number-index c.variables-test.true
          (taken_free formula now c.exists.new.self.moves.items (Exists number) c.in_ok-exists.ensures.takes));
    }
