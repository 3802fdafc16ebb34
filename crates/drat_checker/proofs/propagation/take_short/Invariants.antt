-- The short clauses of the numbers so far are true.
use Rattle.std.proofs.Common.{◌≡◌, ℕ, ℤ, List, [], Some, true, take}
use Rattle.std.specs.Prelude.{IsTrue}
use Rattle.drat_checker.specs.Places.{place_at, standing}
use Rattle.drat_checker.specs.Numbers.{has_number}
use Rattle.drat_checker.specs.Propagation.{Derives}
use Rattle.drat_checker.specs.Reasons.{AllByUnits, KeepsReasons}
use Rattle.drat_checker.specs.Database.{is_short}
use Rattle.drat_checker.specs.Watches.{is_true}
use Rattle.drat_checker.proofs.propagation.take_short.Given as goal

abbrev pub invariant-loop-number : goal.invariant-loop-number
invariant-loop-number l = record {
  derives : Derives (standing l.fn.db) l.fn.trail.literals l.trail.literals;
  reasons : KeepsReasons l.fn.db [] l.fn.trail l.trail;
  holds : (number : ℕ) (clause : List ℤ) → IsTrue (has_number number (take l.number-index l.numbers))
      → place_at l.fn.db number ≡ Some clause
      → is_short clause ≡ true → is_true l.trail.literals clause ≡ true;
  units : AllByUnits l.fn.db l.fn.trail → AllByUnits l.fn.db l.trail;
}
