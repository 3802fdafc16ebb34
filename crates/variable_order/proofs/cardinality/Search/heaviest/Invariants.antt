-- The top falls with each list that is empty.
use Rattle.variable_order.proofs.cardinality.Search.heaviest.Given as goal

abbrev pub decreases-loop-self : goal.decreases-loop-self
decreases-loop-self l = l.self.top
