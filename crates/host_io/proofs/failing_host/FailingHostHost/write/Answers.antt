-- What is left to show of `FailingHostHost::write`.
use Rattle.std.proofs.Common.{◌≡◌, ◌<◌, ◌≤◌, length, ap, ◌∙◌, arith}
use Rattle.host_io.proofs.Parts.{writes_front_part}
use Rattle.host_io.proofs.failing_host.FailingHostHost.write.Goals as goal

pub returns-clause-writes : goal.returns-clause-writes
returns-clause-writes c =
    let base : c.self.inside.base ≡ c.args.self.now.base = ap (λ h. h.base) c.self.view_is ∙ c.in_ok-begin.ensures.ok in
    let fits : c.min-count.result ≤ length c.args.bytes.now = grind arith in
    let some : 0 < length c.args.bytes.now → 0 < c.min-count.result = λ more. grind (arith, c.self.invariant.0, more) in
    rw (← base) (writes_front_part _ _ _ _ _ _ fits some c.write.ensures.writes)
