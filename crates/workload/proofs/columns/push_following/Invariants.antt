-- What the loops of `push_following` keep.
use Rattle.std.proofs.Common.{◌≡◌, ◌-◌, ◌++◌}
use Rattle.std.specs.Prelude.{map}
use Rattle.schedule_plan.specs.declared.plan.Move.TheVariants.{Push}
use Rattle.workload.specs.Schedule.{following}
use Rattle.workload.proofs.columns.push_following.Given as goal

abbrev pub invariant-loop-clause : goal.invariant-loop-clause
invariant-loop-clause l = l.moves.items ≡ l.fn.moves.items ++ map Push (following l.start (l.clause - l.start))
