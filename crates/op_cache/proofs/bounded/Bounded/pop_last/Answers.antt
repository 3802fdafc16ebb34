-- One entry less keeps the keys different.
use Rattle.op_cache.proofs.Bounds.{without_last_bounded}
use Rattle.op_cache.proofs.bounded.Bounded.pop_last.Goals as goal

pub invariant_of-self : goal.invariant_of-self
invariant_of-self g c = rw c.pop_lru.ensures.entries
    (without_last_bounded g.K.PartialEq.eq c.self.inside.cache.entries c.self.inside.cache.cap c.self.invariant)
