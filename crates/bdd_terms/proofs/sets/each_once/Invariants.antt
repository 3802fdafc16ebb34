-- What the loops of `each_once` keep.
use Rattle.std.proofs.Common.{take}
use Rattle.bdd_terms.specs.Sets.{AreOnce}
use Rattle.bdd_terms.proofs.sets.each_once.Given as goal

abbrev pub invariant-places : goal.invariant-places
invariant-places l = AreOnce (take l.place l.sorted) l.once.items
