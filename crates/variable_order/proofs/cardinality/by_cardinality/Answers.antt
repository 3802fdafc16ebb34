-- An order of a sequence has as many variables as the graph.
use Rattle.variable_order.proofs.cardinality.by_cardinality.Goals as goal

pub returns : goal.returns
returns c = rw c.vars.ensures.value at c.completed.ensures.length
