-- What is left to show of `complain`.
use Rattle.std.proofs.Common.{◌∙◌, rules}
use Rattle.host_io.proofs.Written.{carried}
use Rattle.solver_cli.specs.Phases.{Complains}
use Rattle.solver_cli.proofs.Complaints.{complained}
use Rattle.solver_cli.proofs.complaint.complain.Goals as goal

pub returns-clause-complains : goal.returns-clause-complains
returns-clause-complains g c =
    let made = c.new-sink.ensures in
    let same = c.flush-flushed.ensures.beside ∙ c.write_status-written.ensures.beside in
    carried (λ old new. Complains g.H.Host.tells old new c.args.status) _ _ _ _ (
    complained _ _ _ _ _ _ _ c.write_status-written.ensures.writes c.flush-flushed.ensures.flushes
    ) (cc) (c.beside_kept.ensures.sink made.same_reference made.same_value made.role same (search rules)).same

pub returns-clause-kept : goal.returns-clause-kept
returns-clause-kept g c =
    let made = c.new-sink.ensures in
    let same = c.flush-flushed.ensures.beside ∙ c.write_status-written.ensures.beside in
    (c.beside_kept.ensures.sink made.same_reference made.same_value made.role same (search rules)).kept
