-- What the loops of `is_among` keep.
use Rattle.std.proofs.Common.{◌≡◌, false, take}
use Rattle.lrat_rules.specs.Chain.{literals_of}
use Rattle.lrat_rules.proofs.effect.is_among.Given as goal

abbrev pub invariant-loop-own : goal.invariant-loop-own
invariant-loop-own l = literals_of (take l.own-index l.literals) l.literal ≡ false
