-- What is left to show of `purge_turn_law`.
use Rattle.operations.proofs.PurgedTurns.{purging_turns}
use Rattle.operations.proofs.laws.purge_turn_law.Goals as goal

pub returns : goal.returns
returns g c = purging_turns
