-- What is left to show of `growth_law`.
use Rattle.node_table.proofs.Defining.{definitions-kept}
use Rattle.node_table.proofs.Grown.{KeepsNodes-further, is_node-kept, level_of-kept}
use Rattle.node_table.proofs.Kept.{high_at-kept, low_at-kept, value-kept, atom_of-kept, IsJustified-kept}
use Rattle.node_table.proofs.laws.growth_law.Goals as goal

pub returns : goal.returns
returns c = record {
  stands = is_node-kept;
  level = level_of-kept;
  high = high_at-kept;
  low = low_at-kept;
  value = value-kept;
  atom = atom_of-kept;
  justified = IsJustified-kept c.clause_law.ensures.given;
  further = KeepsNodes-further;
  definitions = definitions-kept;
}
