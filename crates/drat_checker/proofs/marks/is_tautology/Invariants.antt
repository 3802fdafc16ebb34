-- The literals so far are marked, and none of them stands beside its negation.
use Rattle.std.proofs.Common.{◌≡◌, ℤ, take}
use Rattle.lrat_rules.specs.Chain.{literals_of}
use Rattle.drat_checker.specs.Trail.{IsApart}
use Rattle.drat_checker.proofs.marks.is_tautology.Given as goal

abbrev pub invariant-loop-literal : goal.invariant-loop-literal
invariant-loop-literal l = record {
  marked : (x : ℤ) → literals_of l.marks x ≡ literals_of (take l.literal-index l.clause) x;
  apart : IsApart (take l.literal-index l.clause);
}
