-- What is left to show of `entry_law`.
use Rattle.operations.proofs.Kept.{fitting}
use Rattle.operations.proofs.laws.entry_law.Goals as goal

pub returns : goal.returns
returns g c = fitting c.steps_law.ensures c.growth_law.ensures c.clause_law.ensures.given
