-- What the loops of `falling_of` keep.
use Rattle.std.proofs.Common.{◌≡◌, map, reverse, take}
use Rattle.node_table.specs.Diagram.{variable_at}
use Rattle.bdd_terms.proofs.sets.falling_of.Given as goal

abbrev pub invariant-places : goal.invariant-places
invariant-places g l = l.variables.items ≡ map (variable_at l.table.graph) (take l.place (reverse l.set))
