-- What the loops of `has_opposites` keep.
use Rattle.clause_terms.proofs.Ordered.{NoneAmong}
use Rattle.clause_terms.proofs.order.has_opposites.Given as goal

abbrev pub invariant-neighbours : goal.invariant-neighbours
invariant-neighbours l = NoneAmong l.placed l.i
