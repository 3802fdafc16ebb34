-- The least of the numbers so far.
use Rattle.std.proofs.Common.{take}
use Rattle.std.specs.Prelude.{IsTrue, IfSome}
use Rattle.drat_rules.specs.Clauses.{equality_of}
use Rattle.drat_checker.specs.Places.{is_twin, place_at}
use Rattle.drat_checker.proofs.LeastNumbers.{LeastOf}
use Rattle.drat_checker.proofs.twins.least_of.Given as goal

abbrev pub invariant-loop-number : goal.invariant-loop-number
invariant-loop-number l = record {
  found : IfSome l.least (λ number. IsTrue (is_twin (equality_of l.deletions) l.fn.clause (place_at l.fn.store number)));
  least : LeastOf l.fn.store (equality_of l.deletions) l.fn.clause (take l.number-index l.fn.numbers) l.least;
}
