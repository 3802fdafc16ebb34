-- What is left to show of `prove_telling`.
use Rattle.std.proofs.Common.{rules, ◌∙◌, refl}
use Rattle.host_io.specs.declared.role.Role.TheVariants.{ProofOut}
use Rattle.solver_cli.specs.Progress.{serves_written}
use Rattle.solver_cli.proofs.Decided.{written_between}
use Rattle.solver_cli.proofs.Reported.{left, tied}
use Rattle.solver_cli.proofs.proof.prove_telling.Goals as goal

pub returns-clause-writes : goal.returns-clause-writes
returns-clause-writes g c =
    let made = c.new-sink.ensures in
    let is = left g.H.Host.channel g.H.Host.files serves_written (λ h. (g.H.Host.channel h ProofOut).name) refl made.same_reference
    made.same_value made.origin (c.report_end.ensures.beside ∙ c.decide-result.ensures.beside) c.report_end.new.sink.told
    (tied c.close-host.ensures.same_reference c.close-host.ensures.same_value (search rules)) in
    written_between g.H.Host.channel made.same_value is.same c.report_end.ensures.channel c.decide-result.ensures.writes

pub returns-clause-told : goal.returns-clause-told
returns-clause-told g c =
    let made = c.new-sink.ensures in
    (left g.H.Host.channel g.H.Host.files serves_written (λ h. (g.H.Host.channel h ProofOut).name) refl made.same_reference
    made.same_value made.origin (c.report_end.ensures.beside ∙ c.decide-result.ensures.beside) c.report_end.new.sink.told
    (tied c.close-host.ensures.same_reference c.close-host.ensures.same_value (search rules))).told

pub returns-clause-kept : goal.returns-clause-kept
returns-clause-kept g c =
    let made = c.new-sink.ensures in
    let is = left g.H.Host.channel g.H.Host.files serves_written (λ h. (g.H.Host.channel h ProofOut).name) refl made.same_reference
    made.same_value made.origin (c.report_end.ensures.beside ∙ c.decide-result.ensures.beside) c.report_end.new.sink.told
    (tied c.close-host.ensures.same_reference c.close-host.ensures.same_value (search rules)) in
    record { others = is.others; files = is.untouched }
