-- The literals before the heads are propagated; and a list has fewer than 2 ^ 64.
use Rattle.std.proofs.Common.{◌+◌, ◌-◌, ◌^◌, ◌<◌, ◌≤◌, [], length}
use Rattle.drat_checker.specs.Places.{standing}
use Rattle.drat_checker.specs.Propagation.{Derives}
use Rattle.drat_checker.specs.Reasons.{KeepsReasons}
use Rattle.drat_checker.specs.Watches.{AreHeads, AreTrue, AreWatched, MovesWatches}
use Rattle.drat_checker.proofs.propagation.propagate.Given as goal

abbrev pub invariant-literals : goal.invariant-literals
invariant-literals l = record {
  watched : AreWatched l.kept l.fn.db;
  moves : MovesWatches l.fn.kept.pairs.items l.kept.pairs.items l.fn.trail.literals;
  derives : Derives (standing l.fn.db) l.fn.trail.literals l.trail.literals;
  reasons : KeepsReasons l.fn.db [] l.fn.trail l.trail;
  heads : AreHeads l.fn.db l.kept l.trail.literals l.heads.next l.heads.late;
  within : l.heads.late < length l.trail.literals → l.heads.next ≤ length l.trail.literals;
  holds : AreTrue l.fn.db l.trail.literals;
}

abbrev pub decreases-literals : goal.decreases-literals
decreases-literals l = 2 ^ 65 - (l.heads.next + l.heads.late)
