-- The clause forces its literal wherever that isn't false, so also where its negation became false.
use Rattle.std.proofs.Common.{◌≡◌, false, ℤ, neg_ℤ, [], ◌∷◌, ◌++◌, Some, sym, ap, ◌∙◌, subst}
use Rattle.std.proofs.lemmas.Bool.{both_ways}
use Rattle.lrat_rules.specs.declared.outcome.Effect.TheVariants.{Conflict, Unit as Forced, NotUnit}
use Rattle.lrat_rules.specs.Chain.{literals_of}
use Rattle.drat_checker.specs.Reasons.{AreByUnits, AreReasons}
use Rattle.drat_checker.specs.Trail.{IsAt, Trail}
use Rattle.drat_checker.proofs.Cited.{reasons-cited}
use Rattle.drat_checker.proofs.Trails.{at-any}
use Rattle.drat_checker.proofs.Units.{forced-inside, units-cited, units-other}
use Rattle.drat_checker.proofs.roots.cite_unit.Goals as goal

conflict-not : (y : ℤ) → Conflict ≡ Forced y → ⊥
conflict-not y e = cc

not_unit-not : (y : ℤ) → NotUnit ≡ Forced y → ⊥
not_unit-not y e = cc

pub returns-in-Conflict-clause-units : goal.returns-in-Conflict-clause-units
returns-in-Conflict-clause-units c = λ before last many units.
    units-other before c.args.clause.now c.args.trail.now units (λ k y e at.
    conflict-not y (sym c.in-Conflict.is ∙ c.effect_on.ensures ∙ e))

pub returns-in-NotUnit-clause-units : goal.returns-in-NotUnit-clause-units
returns-in-NotUnit-clause-units c = λ before last many units.
    units-other before c.args.clause.now c.args.trail.now units (λ k y e at.
    not_unit-not y (sym c.in-NotUnit.is ∙ c.effect_on.ensures ∙ e))

pub returns-in-None-clause-units : goal.returns-in-None-clause-units
returns-in-None-clause-units c = λ before last many units.
    let literals = c.args.trail.now.literals in
    let unfalse : literals_of literals (neg_ℤ c.in-Unit.literal) ≡ false =
    ap (literals_of literals) (sym c.negated.ensures) ∙ c.place.ensures.none c.in-None.is in
    units-other before c.args.clause.now c.args.trail.now units (λ k y e at.
    let same = forced-inside c.in-Unit.literal y (sym c.in-Unit.is ∙ c.effect_on.ensures ∙ e) in
    both_ways (literals_of literals (neg_ℤ c.in-Unit.literal)) unfalse
    (ap (λ z. literals_of literals (neg_ℤ z)) same ∙ ap (literals_of literals) (sym at.own) ∙ at-any literals k at.within))

pub returns-in-Some-clause-reasons : goal.returns-in-Some-clause-reasons
returns-in-Some-clause-reasons c = λ places assumed stands are.
    let at : IsAt c.args.trail.now.literals (neg_ℤ c.in-Unit.literal) c.in-Some.place =
    subst (λ (x : ℤ). IsAt c.args.trail.now.literals x c.in-Some.place) c.negated.ensures c.in-Some.ensures.found in
    subst (λ (t : Trail). AreReasons places assumed t) (sym c.set_reason.ensures)
    (reasons-cited places assumed c.args.trail.now c.in-Some.place c.args.number c.args.clause.now c.in-Unit.literal c.apart_law.ensures
    stands (sym c.effect_on.ensures ∙ c.in-Unit.is) at are)

pub returns-in-Some-clause-units : goal.returns-in-Some-clause-units
returns-in-Some-clause-units c = λ before last many units.
    let at : IsAt c.args.trail.now.literals (neg_ℤ c.in-Unit.literal) c.in-Some.place =
    subst (λ (x : ℤ). IsAt c.args.trail.now.literals x c.in-Some.place) c.negated.ensures c.in-Some.ensures.found in
    subst (λ (t : Trail). AreByUnits (before ++ Some c.args.clause.now ∷ []) (before ++ Some c.args.clause.now ∷ []) t)
    (sym c.set_reason.ensures)
    (units-cited before c.args.clause.now c.args.trail.now units c.once_law.ensures many c.args.number c.in-Some.place last
    c.in-Unit.literal (sym c.effect_on.ensures ∙ c.in-Unit.is) at)
