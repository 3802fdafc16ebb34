-- What is left to show of `kept_law`.
use Rattle.node_table.proofs.KeptFrom.{KeepsFrom-all, KeepsFrom-further, stands-from, level_of-from, value-from, atom_of-from}
use Rattle.node_table.proofs.laws.kept_law.Goals as goal

pub returns : goal.returns
returns c = record {
  all = KeepsFrom-all;
  further = KeepsFrom-further;
  stands = stands-from;
  level = level_of-from;
  value = value-from;
  atom = atom_of-from;
}
