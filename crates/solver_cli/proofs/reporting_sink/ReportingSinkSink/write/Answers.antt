-- What is left to show of `write`.
use Rattle.std.proofs.Common.{◌∙◌}
use Rattle.host_io.specs.declared.role.Role.TheVariants.{ProofOut}
use Rattle.solver_cli.proofs.Reported.{served}
use Rattle.solver_cli.proofs.reporting_sink.ReportingSinkSink.write.Goals as goal

pub returns-in_err-written-clause-beside : goal.returns-in_err-written-clause-beside
returns-in_err-written-clause-beside g c = served _ ProofOut _ _ _ _ _ _ _ c.in_err-written.ensures.writes.name c.in_err-written.ensures.kept

pub returns-clause-beside : goal.returns-clause-beside
returns-clause-beside g c =
    c.pass.ensures.beside ∙ served _ ProofOut _ _ _ _ _ _ _ c.in_ok-written.ensures.writes.name c.in_ok-written.ensures.kept
