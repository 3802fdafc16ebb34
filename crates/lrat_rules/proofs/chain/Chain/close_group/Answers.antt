-- The addition's own literals are left.
use Rattle.lrat_rules.specs.Stamps.{stamp_of}
use Rattle.lrat_rules.specs.FalseLiterals.{set_of, before_of}
use Rattle.lrat_rules.proofs.FalseStamps.{apart_if_open, closed_before, no_group}
use Rattle.lrat_rules.proofs.chain.Chain.close_group.Goals as goal

pub returns-clause-set : goal.returns-clause-set
unfolding set_of before_of
returns-clause-set c =
    let self = c.args.self.now in
    closed_before self.own self.group (stamp_of self.stamps) (apart_if_open self.own self.group _ c.requires)

pub returns-clause-no_group : goal.returns-clause-no_group
unfolding before_of
returns-clause-no_group c = no_group c.args.self.now.own _
