-- What the loops of `ScheduleJudge::conjoin` keep.
use Rattle.std.proofs.Common.{◌≡◌, ◌+◌, ◌-◌, ◌≤◌, length}
use Rattle.std.specs.Prelude.{replicate}
use Rattle.schedule_plan.specs.declared.plan.Move.TheVariants.{And}
use Rattle.schedule_plan.specs.ScheduleText.{taken}
use Rattle.schedule_plan.specs.ScheduleState.{Stands}
use Rattle.schedule_plan.proofs.schedule.judge.ScheduleJudge.conjoin.Given as goal

abbrev pub invariant-loop : goal.invariant-loop
invariant-loop l = record {
  stands : Stands l.formula l.self;
  enough : l.terms + 1 ≤ length l.self.starts.items + l.counter;
  rest : taken l.formula l.fn.self.moves.items (replicate (l.terms - 1) And)
      ≡ taken l.formula l.self.moves.items (replicate (l.terms - l.counter) And);
}
