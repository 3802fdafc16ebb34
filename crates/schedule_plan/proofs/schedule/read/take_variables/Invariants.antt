-- What the loops of `take_variables` keep.
use Rattle.std.proofs.Common.{◌≡◌, map, drop}
use Rattle.schedule_plan.specs.declared.plan.Move.TheVariants.{Exists}
use Rattle.schedule_plan.specs.ScheduleText.{taken}
use Rattle.std.specs.Prelude.{IsTrue}
use Rattle.schedule_plan.specs.ScheduleState.{Stands}
use Rattle.schedule_plan.specs.ScheduleMemory.{moves_may_want_memory}
use Rattle.schedule_plan.proofs.schedule.read.take_variables.Given as goal

abbrev pub invariant-variables : goal.invariant-variables
invariant-variables l = record {
  stands : Stands l.formula l.judge;
  rest : taken l.formula l.fn.judge.moves.items (map Exists l.numbers)
      ≡ taken l.formula l.judge.moves.items (map Exists (drop l.number-index l.numbers));
  memory : IsTrue (moves_may_want_memory l.formula l.judge.moves.items (map Exists (drop l.number-index l.numbers)))
      → IsTrue (moves_may_want_memory l.formula l.fn.judge.moves.items (map Exists l.numbers));
}
