-- The reservation made no literal false.
use Rattle.std.proofs.Common.{◌∙◌}
use Rattle.lrat_rules.proofs.chain.Chain.start.Goals as goal

pub mark_all-requires-clause-none : goal.mark_all-requires-clause-none
mark_all-requires-clause-none c = λ x. (λ i. c.reserve_all.ensures.same.set i x) ∙ c.new-chain.ensures.none x

pub mark_all-requires-clause-no_group : goal.mark_all-requires-clause-no_group
mark_all-requires-clause-no_group c = c.reserve_all.ensures.same.before ∙ c.new-chain.ensures.no_group
