-- What the reservation, the new group and its literals make of the sets.
use Rattle.std.proofs.Common.{◌≡◌, ◌∙◌, ◌&&◌, ◌||◌, ℤ, true, not, int_eq, Some, sym, ap, subst}
use Rattle.std.specs.List.{list_any}
use Rattle.lrat_rules.specs.Chain.{literals_of}
use Rattle.lrat_rules.specs.FalseLiterals.{set_of}
use Rattle.lrat_rules.specs.Stamps.{has_place}
use Rattle.lrat_rules.specs.declared.stamps.Stamps.{Stamps}
use Rattle.lrat_rules.proofs.FalseStamps.{on_err}
use Rattle.lrat_rules.proofs.chain.Chain.open_group.Goals as goal

pub returns-in_err-reserve_others-clause-err : goal.returns-in_err-reserve_others-clause-err
returns-in_err-reserve_others-clause-err c = on_err c.from_residual.result c.reserve_others.ensures.same

pub returns-in_err-reserve_others-clause-memory : goal.returns-in_err-reserve_others-clause-memory
returns-in_err-reserve_others-clause-memory c = on_err c.from_residual.result
    (subst (λ (y : ℤ). list_any (λ x. not (int_eq x y)) c.args.clause.now ≡ true) c.negated-negated.ensures
    c.in_err-reserve_others.ensures.memory)

pub open-requires-clause-none : goal.open-requires-clause-none
open-requires-clause-none c = c.reserve_others.ensures.same.before ∙ c.requires

pub mark_others-requires-clause-places : goal.mark_others-requires-clause-places
mark_others-requires-clause-places c = λ x is other.
    subst (λ (stamps : Stamps). has_place stamps x ≡ true) (sym c.open.ensures.stamps) (c.in_ok-reserve_others.ensures.ok x is other)

pub returns-clause-set : goal.returns-clause-set
returns-clause-set c = λ i x.
    (c.mark_others.ensures.set x
    ∙ ap (λ b. (not (int_eq x c.negated-negated.result) && literals_of c.args.clause.now x) || b)
    (c.open.ensures.set x ∙ (λ j. c.reserve_others.ensures.same.set j x))
    ∙ ap (λ y. (not (int_eq x y) && literals_of c.args.clause.now x) || set_of c.args.self.now x) c.negated-negated.ensures) i

pub returns-clause-group : goal.returns-clause-group
returns-clause-group c =
    c.mark_others.ensures.same_group ∙ c.open.ensures.group ∙ ap Some c.reserve_others.ensures.same.set
