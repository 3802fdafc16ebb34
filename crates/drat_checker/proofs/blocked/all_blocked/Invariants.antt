-- The clauses of the numbers so far pass.
use Rattle.std.proofs.Common.{◌≡◌, ℕ, ℤ, List, Some, take}
use Rattle.std.specs.Prelude.{IsTrue}
use Rattle.drat_rules.specs.Addition.{passes_candidate}
use Rattle.drat_checker.specs.Places.{place_at, standing}
use Rattle.drat_checker.specs.Numbers.{has_number}
use Rattle.drat_checker.proofs.blocked.all_blocked.Given as goal

abbrev pub invariant-loop-number : goal.invariant-loop-number
invariant-loop-number l = record {
  pass : (number : ℕ) (other : List ℤ) → IsTrue (has_number number (take l.number-index l.numbers)) → place_at l.fn.db number ≡ Some other
      → IsTrue (passes_candidate (standing l.fn.db) l.fn.pivot l.fn.clause other);
}
