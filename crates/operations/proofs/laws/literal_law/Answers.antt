-- What is left to show of `literal_law`.
use Rattle.operations.proofs.Literals.{literals}
use Rattle.operations.proofs.laws.literal_law.Goals as goal

pub returns : goal.returns
returns c = literals
