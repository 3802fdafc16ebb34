-- A look-up keeps the keys different and the entries as many.
use Rattle.op_cache.proofs.Bounds.{looked_bounded}
use Rattle.op_cache.proofs.bounded.Bounded.look.Goals as goal

pub invariant_of-self : goal.invariant_of-self
invariant_of-self g c = rw c.get.follows.holds-at-none
    (looked_bounded g.K.PartialEq.eq g.met.K.Eq.laws c.self.inside.cache.entries c.self.inside.cache.cap c.args.key.now c.self.invariant)

pub invariant_of-self-in-None : goal.invariant_of-self-in-None
invariant_of-self-in-None g c = rw c.get.follows.holds-at-none
    (looked_bounded g.K.PartialEq.eq g.met.K.Eq.laws c.self.inside.cache.entries c.self.inside.cache.cap c.args.key.now c.self.invariant)
