-- What the loops of `climb` keep.
use Rattle.std.proofs.Common.{◌-◌}
use Rattle.schedule_plan.proofs.Climb.{IsClimbed, IsClimbing}
use Rattle.schedule_plan.proofs.ItemFacts.{items_of}
use Rattle.schedule_plan.proofs.forest.climb.Given as goal

abbrev pub invariant-climbing : goal.invariant-climbing
invariant-climbing l = IsClimbing (items_of l.formula l.order l.occurrences l.fn.buckets) l.one-index l.initial.buckets l.initial.above
    l.buckets l.above l.item

abbrev pub decreases-climbing : goal.decreases-climbing
decreases-climbing l = l.top - l.item

abbrev pub invariant-occurrences : goal.invariant-occurrences
invariant-occurrences l = IsClimbed (items_of l.formula l.order l.occurrences l.fn.buckets) l.one-index l.buckets l.above
