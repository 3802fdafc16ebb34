-- What is left to show of `RealHost::create`.
use Rattle.std.proofs.Common.{ap, ◌∙◌, inr}
use Rattle.host_io.specs.Real.{Created, channel_of, name_of}
use Rattle.host_io.proofs.Connected.{connected_after, joins_goes}
use Rattle.host_io.proofs.real_host.RealHostHost.create.Goals as goal

pub invariant_of-self : goal.invariant_of-self
invariant_of-self c =
    connected_after c.self.inside.roles c.self.inside.system c.args.role c.index-self-place.result c.create.new.self _ c.place.result
    c.create.new.system c.self.invariant c.place.ensures.place c.place.ensures.below c.index-self-place.is c.create.ensures.made
    (λ was fits idle.
    let unnamed = ap (λ role. name_of role.device.target) was ∙ ap (λ host. (channel_of host c.args.role).name) c.self.view_is
    ∙ c.requires.unnamed in
    joins_goes c.args.role (Created c.args.name.now) _ c.create.new.self c.create.result fits idle (inr c.requires.created) unnamed
    c.requires.created c.create.ensures.opens.faults.no_less c.create.ensures.joins)
