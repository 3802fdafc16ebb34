-- What the loop of `forbidding` keeps.
use Rattle.std.proofs.Common.{◌≡◌, neg_ℤ, map, take}
use Rattle.bdd_terms.proofs.hinted.forbidding.Given as goal

abbrev pub invariant-literals : goal.invariant-literals
invariant-literals l = l.clause.items ≡ map neg_ℤ (take l.literal-index l.cube)
