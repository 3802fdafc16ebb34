-- Rows with places of their own are independent.
use Rattle.parity_equations.proofs.Independent.{no_conflict}
use Rattle.parity_equations.proofs.laws.independence_law.Goals as goal

pub returns : goal.returns
returns c = no_conflict
