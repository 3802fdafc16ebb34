-- What the loops of `first_free` keep.
use Rattle.node_table.specs.Index.{AreTaken}
use Rattle.node_table.proofs.index.first_free.Given as goal

abbrev pub invariant-loop-step : goal.invariant-loop-step
invariant-loop-step l = AreTaken l.places l.home l.step
