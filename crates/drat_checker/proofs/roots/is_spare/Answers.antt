-- A clause is no reason where it forces nothing, or what is false by another one.
use Rattle.std.proofs.Common.{◌≡◌, Bool, true, false, not, ℤ, neg_ℤ, refl, sym, ◌∙◌, subst}
use Rattle.drat_checker.specs.Trail.{IsAt}
use Rattle.drat_checker.proofs.Cited.{spare-forced, spare-open}
use Rattle.drat_checker.proofs.roots.is_spare.Goals as goal

pub returns-in-NotUnit : goal.returns-in-NotUnit
returns-in-NotUnit c = λ is places stands are.
    spare-open places c.args.trail.now c.args.number c.args.clause.now stands are (sym c.effect_of.ensures ∙ c.in-NotUnit.is)

not-true : (b : Bool) → not b ≡ true → b ≡ false
not-true true h = cc
not-true false h = refl

pub returns-in-Some : goal.returns-in-Some
returns-in-Some c = λ is places stands are.
    let at : IsAt c.args.trail.now.literals (neg_ℤ c.in-Unit.literal) c.in-Some.place =
    subst (λ (x : ℤ). IsAt c.args.trail.now.literals x c.in-Some.place) c.negated.ensures c.in-Some.ensures.found in
    spare-forced places c.args.trail.now c.args.number c.args.clause.now stands are c.apart_law.ensures c.once_law.ensures
    c.in-Unit.literal c.in-Some.place (sym c.effect_of.ensures ∙ c.in-Unit.is) at (c.is_reason.ensures (not-true c.is_reason.result is))
