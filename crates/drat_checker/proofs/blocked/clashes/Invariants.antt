-- None of the literals so far clashes.
use Rattle.std.proofs.Common.{◌≡◌, false, take}
use Rattle.lrat_rules.specs.Chain.{literals_of}
use Rattle.lrat_rules.specs.Addition.{is_blocked_by}
use Rattle.drat_checker.proofs.blocked.clashes.Given as goal

abbrev pub invariant-loop-literal : goal.invariant-loop-literal
invariant-loop-literal l = is_blocked_by (literals_of l.clause) l.fn.pivot (take l.literal-index l.other) ≡ false
