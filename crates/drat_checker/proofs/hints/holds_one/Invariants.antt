-- None of the literals so far was taken.
use Rattle.std.proofs.Common.{◌≡◌, true, false, ℤ, take}
use Rattle.lrat_rules.specs.Chain.{literals_of}
use Rattle.drat_checker.proofs.hints.holds_one.Given as goal

abbrev pub invariant-loop-literal : goal.invariant-loop-literal
invariant-loop-literal l = (x : ℤ) → literals_of (take l.literal-index l.clause) x ≡ true → literals_of l.fn.taken x ≡ false
