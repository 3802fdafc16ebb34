-- What is left to show of `RealHost::flush`.
use Rattle.std.proofs.Common.{[], sym, append-nil}
use Rattle.host_io.proofs.Connected.{connected_after, same_goes, flush_idle}
use Rattle.host_io.proofs.real_host.RealHostHost.flush.Goals as goal

pub invariant_of-self : goal.invariant_of-self
invariant_of-self c =
    connected_after c.self.inside.roles c.self.inside.system c.args.role c.index-self-place.result c.flush.new.self [] c.place.result
    c.self.inside.system c.self.invariant c.place.ensures.place c.place.ensures.below c.index-self-place.is (sym (append-nil _))
    (λ _ fits idle. same_goes c.args.role _ c.flush.new.self fits c.flush.ensures.target c.flush.ensures.flushes.faults.no_less
    (λ none. flush_idle _ _ c.flush.result c.flush.ensures.passed (idle none)))
