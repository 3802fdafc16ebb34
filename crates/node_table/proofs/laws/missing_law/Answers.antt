-- What is left to show of `missing_law`.
use Rattle.node_table.proofs.Missing.{missing_nowhere}
use Rattle.node_table.proofs.laws.missing_law.Goals as goal

pub returns : goal.returns
returns c = missing_nowhere
