-- What the loops of `push_clause` keep.
use Rattle.std.proofs.Common.{◌≡◌, ℕ, length, take}
use Rattle.schedule_plan.specs.ScheduleState.{with_push, changed, use_at}
use Rattle.schedule_plan.proofs.schedule.uses.push_clause.Given as goal

abbrev pub invariant-literals : goal.invariant-literals
invariant-literals l = record {
  count : length l.uses.items ≡ length l.fn.uses.items;
  uses : (x : ℕ) → use_at l.uses.items x ≡ changed (with_push l.mark l.place) (take l.literal-index l.clause) l.fn.uses.items x;
}
