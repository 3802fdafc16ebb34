-- What is left to show of `cache_turn_law`.
use Rattle.operations.proofs.CacheTurns.{cache_turns}
use Rattle.operations.proofs.laws.cache_turn_law.Goals as goal

pub returns : goal.returns
returns g c = cache_turns g.K.PartialEq.eq c.turn_law.ensures
