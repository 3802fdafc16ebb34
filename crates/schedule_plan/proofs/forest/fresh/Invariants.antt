-- What the loops of `fresh` keep.
use Rattle.std.proofs.Common.{length}
use Rattle.schedule_plan.proofs.Fresh.{IsFreshAfter}
use Rattle.schedule_plan.proofs.forest.fresh.Given as goal

abbrev pub invariant-loop-one : goal.invariant-loop-one
invariant-loop-one l = IsFreshAfter (length l.formula.clauses) (length l.order) l.occurrences l.one-index l.buckets.items
