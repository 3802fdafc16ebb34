-- What is left to show of `table_turn_law`.
use Rattle.operations.proofs.CacheTurns.{table_turns}
use Rattle.operations.proofs.laws.table_turn_law.Goals as goal

pub returns : goal.returns
returns g c = table_turns g.K.PartialEq.eq g.met.K.Eq.laws c.turn_law.ensures c.entry_law.ensures c.purge_law.ensures
    c.purge_turn_law.ensures c.steps_law.ensures
