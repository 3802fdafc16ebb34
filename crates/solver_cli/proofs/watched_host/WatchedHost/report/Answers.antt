-- What is left to show of `report`.
use Rattle.std.proofs.Common.{◌∙◌}
use Rattle.solver_cli.proofs.Commented.{noted_more, notes_name}
use Rattle.solver_cli.proofs.watched_host.WatchedHost.report.Goals as goal

pub invariant_of-self : goal.invariant_of-self
invariant_of-self g c = record {
  unnamed = notes_name c.tell.ensures.notes ∙ c.args.self.now.unnamed;
  told = noted_more c.args.self.now.told c.tell.ensures.notes;
}
