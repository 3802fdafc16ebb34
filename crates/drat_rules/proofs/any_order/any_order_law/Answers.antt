-- Each set of literals stands equally often in both lists.
use Rattle.drat_rules.proofs.AnyOrder.{any_order}
use Rattle.drat_rules.proofs.any_order.any_order_law.Goals as goal

pub returns : goal.returns
returns c = any_order
