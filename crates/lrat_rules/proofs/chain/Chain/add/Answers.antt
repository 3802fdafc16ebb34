-- A reservation leaves the sets as they were.
use Rattle.std.proofs.Common.{◌∙◌, ◌||◌, int_eq, refl, ap}
use Rattle.lrat_rules.proofs.FalseStamps.{on_err, same_sets}
use Rattle.lrat_rules.proofs.chain.Chain.add.Goals as goal

pub returns-then-self-clause-err : goal.returns-then-self-clause-err
returns-then-self-clause-err c = same_sets c.args.self.now c.args.self.now (λ x. refl) refl refl

pub returns-in_err-reserve-clause-err : goal.returns-in_err-reserve-clause-err
returns-in_err-reserve-clause-err c = on_err c.from_residual.result c.reserve.ensures.same

pub returns-clause-ok : goal.returns-clause-ok
returns-clause-ok c = λ x. c.mark.ensures.set x ∙ ap (λ b. int_eq x c.args.literal || b) (λ i. c.reserve.ensures.same.set i x)

pub returns-clause-same_group : goal.returns-clause-same_group
returns-clause-same_group c = c.mark.ensures.same_group ∙ c.reserve.ensures.same.before
