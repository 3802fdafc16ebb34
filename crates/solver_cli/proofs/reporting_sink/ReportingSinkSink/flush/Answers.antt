-- What is left to show of `flush`.
use Rattle.host_io.specs.declared.role.Role.TheVariants.{ProofOut}
use Rattle.solver_cli.proofs.Reported.{served}
use Rattle.solver_cli.proofs.reporting_sink.ReportingSinkSink.flush.Goals as goal

pub returns-clause-beside : goal.returns-clause-beside
returns-clause-beside g c = served _ ProofOut _ _ _ _ _ _ _ c.flush.ensures.flushes.name c.flush.ensures.kept
