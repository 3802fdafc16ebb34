-- What is left to show of `RealHost::begin`.
use Rattle.host_io.proofs.Connected.{connected_after, begins_goes}
use Rattle.host_io.proofs.real_host.RealHost.begin.Goals as goal

pub invariant_of-self : goal.invariant_of-self
invariant_of-self c =
    connected_after c.self.inside.roles c.self.inside.system c.args.role c.index-self-place.result c.begin.new.self _ c.place.result
    c.begin.new.system c.self.invariant c.place.ensures.place c.place.ensures.below c.index-self-place.is c.begin.ensures.made
    (λ _ fits idle. begins_goes c.args.role _ c.begin.new.self c.begin.result fits idle c.begin.ensures.no_less c.begin.ensures.begins)
