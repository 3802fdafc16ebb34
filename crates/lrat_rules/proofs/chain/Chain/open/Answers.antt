-- The new group's stamp is no literal's.
use Rattle.std.proofs.Common.{◌+◌, arith}
use Rattle.lrat_rules.specs.Stamps.{stamp_of}
use Rattle.lrat_rules.specs.FalseLiterals.{set_of, before_of}
use Rattle.lrat_rules.proofs.FalseStamps.{one_stamp, opened_set, opened_before}
use Rattle.lrat_rules.proofs.chain.Chain.open.Goals as goal

pub returns-clause-set : goal.returns-clause-set
unfolding set_of before_of
returns-clause-set c = λ x.
    let self = c.args.self.now in
    opened_set self.own self.group self.last (stamp_of self.stamps x) (self.last + 1) (one_stamp self.own self.group _ c.requires.none)
    (self.given x) (omega arith)

pub returns-clause-group : goal.returns-clause-group
unfolding set_of before_of
returns-clause-group c =
    let self = c.args.self.now in
    opened_before self.own self.group self.last (self.last + 1) (stamp_of self.stamps) (one_stamp self.own self.group _ c.requires.none)
    self.own_given (omega arith)
