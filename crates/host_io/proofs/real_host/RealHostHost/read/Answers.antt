-- What is left to show of `RealHost::read`.
use Rattle.std.proofs.Common.{[], sym, append-nil, subst, ◌∙◌}
use Rattle.host_io.specs.Real.{IsSource}
use Rattle.host_io.proofs.Connected.{connected_after, same_goes}
use Rattle.host_io.proofs.real_host.RealHostHost.read.Goals as goal

pub invariant_of-self : goal.invariant_of-self
invariant_of-self c =
    connected_after c.self.inside.roles c.self.inside.system c.args.role c.index-self-place.result c.read.new.self [] c.place.result
    c.self.inside.system c.self.invariant c.place.ensures.place c.place.ensures.below c.index-self-place.is (sym (append-nil _))
    (λ _ fits idle. same_goes c.args.role _ c.read.new.self fits c.read.ensures.target c.read.ensures.reads.faults.no_less
    (λ none. absurd (subst IsSource (c.read.ensures.target ∙ none) c.read.ensures.source)))
