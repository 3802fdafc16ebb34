-- What the loops of `is_any_used` keep.
use Rattle.std.proofs.Common.{◌≡◌, false, take}
use Rattle.std.specs.List.{list_any}
use Rattle.schedule_plan.specs.ScheduleState.{is_used}
use Rattle.schedule_plan.proofs.schedule.uses.is_any_used.Given as goal

abbrev pub invariant-numbers : goal.invariant-numbers
invariant-numbers l = list_any (is_used l.uses l.start) (take l.number-index l.numbers) ≡ false
