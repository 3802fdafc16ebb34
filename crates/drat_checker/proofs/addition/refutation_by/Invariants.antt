-- None of the literals so far has its negation among the false ones.
use Rattle.std.proofs.Common.{◌≡◌, false, ℤ, neg_ℤ, true, take}
use Rattle.lrat_rules.specs.Chain.{literals_of}
use Rattle.drat_checker.proofs.addition.refutation_by.Given as goal

abbrev pub invariant-loop-literal : goal.invariant-loop-literal
invariant-loop-literal l =
    (x : ℤ) → literals_of (take l.literal-index l.clause) x ≡ true → literals_of l.trail.literals (neg_ℤ x) ≡ false
