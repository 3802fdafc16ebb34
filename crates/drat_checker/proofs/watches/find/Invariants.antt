-- The literals so far are false, or that one.
use Rattle.std.proofs.Common.{◌≡◌, true, take}
use Rattle.drat_checker.specs.Watches.{is_last}
use Rattle.drat_checker.proofs.watches.find.Given as goal

abbrev pub invariant-loop-literal : goal.invariant-loop-literal
invariant-loop-literal l = is_last l.fn.trail.literals l.other (take l.literal-index l.fn.clause) ≡ true
