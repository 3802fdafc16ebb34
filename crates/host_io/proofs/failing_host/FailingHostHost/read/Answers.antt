-- What is left to show of `FailingHostHost::read`.
use Rattle.std.proofs.Common.{◌≡◌, ◌<◌, ◌≤◌, length, take, ap, ◌∙◌, arith}
use Rattle.std.proofs.lemmas.List.{length-take-le}
use Rattle.host_io.proofs.Parts.{reads_front_part}
use Rattle.host_io.proofs.failing_host.FailingHostHost.read.Goals as goal

pub returns-clause-reads : goal.returns-clause-reads
returns-clause-reads c =
    let base : c.self.inside.base ≡ c.args.self.now.base = ap (λ h. h.base) c.self.view_is ∙ c.in_ok-begin.ensures.ok in
    let within : c.min-count.result ≤ length c.args.buf.now = grind arith in
    let long : length (take c.min-count.result c.args.buf.now) ≡ c.min-count.result = length-take-le _ _ within in
    let fits : length (take c.min-count.result c.args.buf.now) ≤ length c.args.buf.now = omega arith in
    let some : 0 < length c.args.buf.now → 0 < length (take c.min-count.result c.args.buf.now) = λ more. grind
    (arith, c.self.invariant.0, more) in
    rw (← base) (reads_front_part _ _ _ _ _ c.read.new.buf _ _ c.read.auto.buf fits some c.read.ensures.reads)
