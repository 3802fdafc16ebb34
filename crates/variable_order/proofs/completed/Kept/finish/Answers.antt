-- Where each variable was kept, those kept are an order.
use Rattle.variable_order.proofs.KeptVariables.{all_kept}
use Rattle.variable_order.proofs.completed.Kept.finish.Goals as goal

pub of_variables-requires : goal.of_variables-requires
of_variables-requires c = (all_kept _ _ _ c.self.invariant (rw (← c.self.view_is) at c.requires)).0

pub returns-clause-length : goal.returns-clause-length
returns-clause-length c = rw (c.of_variables.ensures, ← c.self.view_is)
    (all_kept _ _ _ c.self.invariant (rw (← c.self.view_is) at c.requires)).1
