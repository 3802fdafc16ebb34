-- The nodes of so many terms, in their order.
use Rattle.std.proofs.Common.{◌≡◌, map, take}
use Rattle.bdd_terms.proofs.term.nodes_of.Given as goal

abbrev pub invariant-terms : goal.invariant-terms
invariant-terms l = l.nodes.items ≡ map (λ held. held.node) (take l.held-index l.terms)
