-- Each of the literals so far that is false was taken, or is assumed.
use Rattle.std.proofs.Common.{◌≡◌, ◌||◌, true, ℤ, take}
use Rattle.lrat_rules.specs.Chain.{literals_of}
use Rattle.drat_checker.proofs.hints.none_left.Given as goal

abbrev pub invariant-loop-literal : goal.invariant-loop-literal
invariant-loop-literal l =
    (x : ℤ) → literals_of (take l.literal-index l.needed) x ≡ true → literals_of l.fn.trail.literals x ≡ true
    → (literals_of l.fn.taken x || literals_of l.fn.given x) ≡ true
