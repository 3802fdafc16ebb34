-- A literal is stamped.
use Rattle.std.proofs.Common.{int_eq}
use Rattle.lrat_rules.specs.Stamps.{stamp_of}
use Rattle.lrat_rules.specs.FalseLiterals.{set_of, before_of}
use Rattle.lrat_rules.proofs.FalseStamps.{marked_set, marked_before}
use Rattle.lrat_rules.proofs.chain.Chain.mark.Goals as goal

pub returns-clause-set : goal.returns-clause-set
unfolding set_of
returns-clause-set c = λ x.
    marked_set c.args.self.now.own c.args.self.now.group (stamp_of c.args.self.now.stamps x) (stamp_of c.put.new.self x)
    (int_eq x c.args.literal) (c.put.ensures.put x)

pub returns-clause-same_group : goal.returns-clause-same_group
unfolding before_of
returns-clause-same_group c =
    marked_before c.args.self.now.own c.args.self.now.group (stamp_of c.args.self.now.stamps) (stamp_of c.put.new.self) c.args.literal
    c.put.ensures.put
