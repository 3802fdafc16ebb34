-- The hints so far refute, with what is needed of the literals before the place.
use Rattle.std.proofs.Common.{◌≤◌, take}
use Rattle.lrat_rules.specs.Chain.{literals_of}
use Rattle.drat_checker.specs.Hints.{RefuteSoFar}
use Rattle.drat_checker.proofs.hints.explain_all.Given as goal

abbrev pub invariant-places : goal.invariant-places
invariant-places l = record {
  within : l.place ≤ l.fn.first.count;
  so_far : RefuteSoFar l.db l.trail l.given l.fn.first (literals_of (take l.place l.trail.literals)) (literals_of l.needed) l.found;
}

abbrev pub decreases-places : goal.decreases-places
decreases-places l = l.place
