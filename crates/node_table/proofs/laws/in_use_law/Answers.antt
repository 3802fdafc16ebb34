-- What is left to show of `in_use_law`.
use Rattle.node_table.proofs.InUseSame.{in_use_nodes}
use Rattle.node_table.proofs.laws.in_use_law.Goals as goal

pub returns : goal.returns
returns c graph state tied = in_use_nodes graph state tied
