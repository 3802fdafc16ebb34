-- What is left to show of `resolvents_fault`.
use Rattle.std.proofs.Common.{sym, ◌∙◌}
use Rattle.lrat_rules.specs.FalseLiterals.{set_of}
use Rattle.lrat_checker.proofs.GroupFaults.{without_fault}
use Rattle.lrat_checker.proofs.resolvents.resolvents_fault.Goals as goal

pub all_settled-requires-clause-named : goal.all_settled-requires-clause-named
all_settled-requires-clause-named c = without_fault c.args.live.now (set_of c.args.chain.now) c.args.pivot c.args.groups.now
    (sym c.in_ok-reason.ensures.fault ∙ c.in_default.is)
