-- What is left to show of `price_law`.
use Rattle.operations.proofs.Price.{pricing}
use Rattle.operations.proofs.laws.price_law.Goals as goal

pub returns : goal.returns
returns g c = pricing c.reach_law.ensures c.operand_law.ensures c.growth_law.ensures c.front_law.ensures
