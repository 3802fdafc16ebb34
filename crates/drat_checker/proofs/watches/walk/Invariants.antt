-- The numbers behind the place are visited.
use Rattle.std.proofs.Common.{◌≡◌, ◌≤◌, [], length, take}
use Rattle.drat_checker.specs.Places.{standing}
use Rattle.drat_checker.specs.Propagation.{Derives}
use Rattle.drat_checker.specs.Reasons.{KeepsReasons}
use Rattle.drat_checker.specs.LiteralLists.{KeepsEach}
use Rattle.drat_checker.specs.Watches.{ArePairs, AreVisited, IsWatched, MovesWatches, Watchers, beside, watchers_with}
use Rattle.drat_checker.proofs.watches.walk.Given as goal

abbrev pub invariant-numbers : goal.invariant-numbers
invariant-numbers l = record {
  many : length l.pairs.items ≡ length l.fn.db;
  within : l.left ≤ length l.out;
  are : ArePairs l.pairs.items l.fn.db;
  watched : (others : Watchers) → IsWatched l.fn.pairs.items (beside (watchers_with l.fn.lists l.literal l.fn.out) others) l.fn.db
      → IsWatched l.pairs.items (beside (watchers_with l.lists l.literal l.out) others) l.fn.db;
  kept : KeepsEach l.fn.lists l.lists;
  moves : MovesWatches l.fn.pairs.items l.pairs.items l.fn.trail.literals;
  derives : Derives (standing l.fn.db) l.fn.trail.literals l.trail.literals;
  reasons : KeepsReasons l.fn.db [] l.fn.trail l.trail;
  visited : AreVisited l.fn.db l.pairs.items l.literal l.trail.literals l.fn.out (take l.left l.out);
}

abbrev pub decreases-numbers : goal.decreases-numbers
decreases-numbers l = l.left
