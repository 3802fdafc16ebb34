-- What is left to show of `found`.
use Rattle.std.proofs.Common.{◌∙◌}
use Rattle.solver_cli.proofs.Commented.{notes_name, told_then}
use Rattle.solver_cli.proofs.reporting_search.ReportingSearchObserver.found.Goals as goal

pub invariant_of-self : goal.invariant_of-self
invariant_of-self g c = record {
  unnamed = notes_name c.tell.ensures.notes ∙ c.args.self.now.unnamed;
  told = told_then c.args.self.now.told c.tell.ensures.notes;
}
