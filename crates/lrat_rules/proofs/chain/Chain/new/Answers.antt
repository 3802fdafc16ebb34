-- No literal has a stamp.
use Rattle.std.proofs.Common.{refl}
use Rattle.lrat_rules.specs.FalseLiterals.{set_of, before_of}
use Rattle.lrat_rules.proofs.chain.Chain.new.Goals as goal

pub returns-clause-none : goal.returns-clause-none
unfolding set_of
returns-clause-none c = λ x. rw (c.new.ensures x) refl

pub returns-clause-no_group : goal.returns-clause-no_group
unfolding before_of
returns-clause-no_group c = refl
