-- What is left to show of `budget_law`.
use Rattle.operations.proofs.Budget.{budgeted}
use Rattle.operations.proofs.laws.budget_law.Goals as goal

pub returns : goal.returns
returns g c = budgeted c.operand_law.ensures c.growth_law.ensures c.steps_law.ensures
