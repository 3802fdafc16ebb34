-- What is left to show of `cache_law`.
use Rattle.operations.proofs.Cached.{keeping}
use Rattle.operations.proofs.laws.cache_law.Goals as goal

pub returns : goal.returns
returns g c = keeping g.K.PartialEq.eq g.met.K.Eq.laws c.entries_law.ensures c.front_law.ensures c.keep_law.ensures
