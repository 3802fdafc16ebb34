-- What the loops of `Plan::conjoin` keep.
use Rattle.std.proofs.Common.{◌≡◌}
use Rattle.schedule_plan.specs.Plan.{conjoin}
use Rattle.schedule_plan.proofs.plan.Plan.conjoin.Given as goal

abbrev pub invariant-loop-clause : goal.invariant-loop-clause
invariant-loop-clause l = l.moves.items ≡ conjoin l.clause
