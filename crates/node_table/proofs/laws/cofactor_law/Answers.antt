-- What is left to show of `cofactor_law`.
use Rattle.node_table.proofs.Canonical.{value-agree, value-inside}
use Rattle.node_table.proofs.Kept.{value-split, cofactors-below}
use Rattle.node_table.proofs.laws.cofactor_law.Goals as goal

pub returns : goal.returns
returns c = record {
  value = value-split;
  high = λ graph reduced level node is not_above small. (cofactors-below graph reduced level node is not_above small).0;
  low = λ graph reduced level node is not_above small. (cofactors-below graph reduced level node is not_above small).1;
  below = value-agree;
  inside = value-inside;
}
