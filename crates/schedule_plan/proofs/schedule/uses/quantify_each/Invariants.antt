-- What the loops of `quantify_each` keep.
use Rattle.std.proofs.Common.{◌≡◌, ℕ, length, take}
use Rattle.schedule_plan.specs.ScheduleState.{use_at, use_behind}
use Rattle.schedule_plan.proofs.schedule.uses.quantify_each.Given as goal

abbrev pub invariant-numbers : goal.invariant-numbers
invariant-numbers l = record {
  count : length l.uses.items ≡ length l.fn.uses.items;
  uses : (x : ℕ) → use_at l.uses.items x ≡ use_behind (take l.number-index l.numbers) l.fn.uses.items x;
}
