-- What the loops of `ScheduleJudge::new` keep.
use Rattle.std.proofs.Common.{◌≡◌, ℕ, ◌+◌, ◌≤◌, [], length}
use Rattle.schedule_plan.specs.ScheduleState.{use_at, to_come, holds, never}
use Rattle.schedule_plan.proofs.schedule.judge.ScheduleJudge.new.Given as goal

abbrev pub invariant-loop-clause : goal.invariant-loop-clause
invariant-loop-clause l = record {
  count : length l.uses.items ≡ l.formula.vars + 1;
  uses : (x : ℕ) → x ≤ l.formula.vars → ((use_at l.uses.items x).to_come ≡ to_come (holds l.formula x) [] l.clause)
      × ((use_at l.uses.items x).seen ≤ l.clause) × ((use_at l.uses.items x).earliest ≡ never);
}
