-- What is left to show of `serve`: what was told while the run was watched.
use Rattle.std.proofs.Common.{rules, ◌∙◌}
use Rattle.solver_cli.proofs.Reported.{tied}
use Rattle.solver_cli.proofs.Watched.{told_back}
use Rattle.solver_cli.proofs.service.serve.Goals as goal

pub returns-clause-told : goal.returns-clause-told
returns-clause-told g c =
    let made = c.new-watched.ensures in
    told_back g.H.Host.channel made.same_reference made.origin made.asked (c.report_end.ensures.stays.mark ∙ c.serve_over-status.ensures.error)
    c.report_end.new.self.told
    (tied c.close-host.ensures.same_reference c.close-host.ensures.same_value (search rules))
