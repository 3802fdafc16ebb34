-- No literal has the new stamp.
use Rattle.std.proofs.Common.{arith, ◌+◌}
use Rattle.lrat_rules.specs.Stamps.{stamp_of}
use Rattle.lrat_rules.specs.FalseLiterals.{set_of, before_of}
use Rattle.lrat_rules.proofs.FalseStamps.{none_stamped, no_group}
use Rattle.lrat_rules.proofs.chain.Chain.clear.Goals as goal

pub returns-clause-none : goal.returns-clause-none
unfolding set_of
returns-clause-none c = λ x.
    let given = c.args.self.now.given x in
    none_stamped (stamp_of c.args.self.now.stamps x) (c.args.self.now.last + 1) (omega (arith, given))

pub returns-clause-no_group : goal.returns-clause-no_group
unfolding before_of
returns-clause-no_group c = no_group (c.args.self.now.last + 1) _
