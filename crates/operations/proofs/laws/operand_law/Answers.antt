-- What is left to show of `operand_law`.
use Rattle.operations.proofs.Splits.{splitting}
use Rattle.operations.proofs.laws.operand_law.Goals as goal

pub returns : goal.returns
returns c = splitting c.cofactor_law.ensures c.growth_law.ensures
