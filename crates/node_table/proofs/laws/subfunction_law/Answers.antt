-- What is left to show of `subfunction_law`.
use Rattle.node_table.proofs.Subfunctions.{Subfunction-same, Subfunction-further, value-high_at, value-low_at, Subfunction-high_at}
use Rattle.node_table.proofs.Subfunctions.{Subfunction-low_at, MakesOnly-same, MakesOnly-further, MakesOnly-part}
use Rattle.node_table.proofs.laws.subfunction_law.Goals as goal

pub returns : goal.returns
returns c = record {
  same = Subfunction-same;
  further = Subfunction-further;
  high_value = value-high_at;
  low_value = value-low_at;
  high = Subfunction-high_at;
  low = Subfunction-low_at;
  none_made = MakesOnly-same;
  made_further = MakesOnly-further;
  made_for_part = MakesOnly-part;
}
