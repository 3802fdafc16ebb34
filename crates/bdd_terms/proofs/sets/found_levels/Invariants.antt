-- What the loops of `found_levels` keep.
use Rattle.std.proofs.Common.{take}
use Rattle.bdd_terms.specs.Sets.{AreLevelsOf}
use Rattle.bdd_terms.proofs.sets.found_levels.Given as goal

abbrev pub invariant-variables : goal.invariant-variables
invariant-variables g l = AreLevelsOf l.table.graph (take l.variable-index l.set) l.found.items
