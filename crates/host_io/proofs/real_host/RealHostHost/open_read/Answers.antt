-- What is left to show of `RealHost::open_read`.
use Rattle.std.proofs.Common.{ap, ◌∙◌, inl}
use Rattle.host_io.specs.Real.{Opened, channel_of, name_of}
use Rattle.host_io.proofs.Connected.{connected_after, joins_goes}
use Rattle.host_io.proofs.real_host.RealHostHost.open_read.Goals as goal

pub invariant_of-self : goal.invariant_of-self
invariant_of-self c =
    connected_after c.self.inside.roles c.self.inside.system c.args.role c.index-self-place.result c.open.new.self _ c.place.result
    c.open.new.system c.self.invariant c.place.ensures.place c.place.ensures.below c.index-self-place.is c.open.ensures.made
    (λ was fits idle.
    let unnamed = ap (λ role. name_of role.device.target) was ∙ ap (λ host. (channel_of host c.args.role).name) c.self.view_is
    ∙ c.requires.unnamed in
    joins_goes c.args.role (Opened c.args.name.now) _ c.open.new.self c.open.result fits idle (inl c.requires.input) unnamed
    c.requires.input c.open.ensures.opens.faults.no_less c.open.ensures.joins)
