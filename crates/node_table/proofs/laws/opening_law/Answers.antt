-- What is left to show of `opening_law`.
use Rattle.node_table.proofs.Opened.{opened_sound}
use Rattle.node_table.proofs.laws.opening_law.Goals as goal

pub returns : goal.returns
returns g c = opened_sound c.start_law.ensures.clauses c.start_law.ensures.none_at_zero c.start_law.ensures.none_above
