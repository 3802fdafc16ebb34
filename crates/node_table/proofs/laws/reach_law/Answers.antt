-- What is left to show of `reach_law`.
use Rattle.node_table.proofs.Reached.{Reaches-itself, Reaches-further, Reaches-high_at, Reaches-low_at, Reaches-kept, Reaches-back}
use Rattle.node_table.proofs.Reached.{ReachesNew-same, ReachesNew-joined}
use Rattle.node_table.proofs.laws.reach_law.Goals as goal

pub returns : goal.returns
returns c = record {
  itself = Reaches-itself;
  further = Reaches-further;
  high = Reaches-high_at;
  low = Reaches-low_at;
  kept = Reaches-kept;
  kept_back = Reaches-back;
  none_made = ReachesNew-same;
  joined = ReachesNew-joined;
}
