-- The clause of the number is among those that stand.
use Rattle.std.proofs.Common.{◌≡◌, true, ℤ, List, None, Some, sym, ◌∙◌, subst}
use Rattle.drat_rules.specs.Clauses.{is_among}
use Rattle.drat_checker.specs.Places.{standing}
use Rattle.drat_checker.specs.Database.{is_short}
use Rattle.drat_checker.specs.Watches.{is_true}
use Rattle.drat_checker.proofs.Lifts.{if-ok, on-ok, some-each}
use Rattle.drat_checker.proofs.Reasoned.{keeps-none}
use Rattle.drat_checker.proofs.Standing.{among-place, same_inside}
use Rattle.drat_checker.proofs.propagation.take_number.Goals as goal

pub returns-in-Some-clause-conflict : goal.returns-in-Some-clause-conflict
returns-in-Some-clause-conflict c =
    let among : is_among (standing c.args.db.now) c.in-Some.clause.now ≡ true =
    among-place c.args.db.now c.args.number c.in-Some.clause.now (sym c.in-Some.ensures) in
    if-ok c.take_if_short.result (λ conflict h is. h is (standing c.args.db.now) among) c.take_if_short.ensures.conflict

pub returns-in-Some-clause-falsified : goal.returns-in-Some-clause-falsified
returns-in-Some-clause-falsified c =
    if-ok c.take_if_short.result (λ conflict h. some-each conflict (λ n h'. h' c.args.db.now (sym c.in-Some.ensures)) h)
    c.take_if_short.ensures.falsified

pub returns-in-Some-clause-derives : goal.returns-in-Some-clause-derives
returns-in-Some-clause-derives c =
    let among : is_among (standing c.args.db.now) c.in-Some.clause.now ≡ true =
    among-place c.args.db.now c.args.number c.in-Some.clause.now (sym c.in-Some.ensures) in
    on-ok c.take_if_short.result (λ h. h (standing c.args.db.now) among) c.take_if_short.ensures.derives

pub returns-in-Some-clause-reasons : goal.returns-in-Some-clause-reasons
returns-in-Some-clause-reasons c =
    on-ok c.take_if_short.result (λ h. h c.args.db.now (sym c.in-Some.ensures)) c.take_if_short.ensures.reasons

pub returns-in-None-clause-reasons : goal.returns-in-None-clause-reasons
returns-in-None-clause-reasons c = keeps-none c.args.db.now c.args.trail.now

pub returns-in-Some-clause-taken : goal.returns-in-Some-clause-taken
returns-in-Some-clause-taken c =
    if-ok c.take_if_short.result
    (λ conflict h is clause stands short.
    subst (λ (d : List ℤ). is_short d ≡ true → is_true c.take_if_short.new.trail.literals d ≡ true)
    (same_inside c.in-Some.clause.now clause (c.in-Some.ensures ∙ stands)) (h is) short)
    c.take_if_short.ensures.taken

pub returns-in-Some-clause-units : goal.returns-in-Some-clause-units
returns-in-Some-clause-units c =
    on-ok c.take_if_short.result (λ h. h c.args.db.now (sym c.in-Some.ensures)) c.take_if_short.ensures.units

none-some : (clause : List ℤ) → None ≡ Some clause → ⊥
none-some clause e = cc

pub returns-in-None-clause-taken : goal.returns-in-None-clause-taken
returns-in-None-clause-taken c = λ is clause stands. absurd (none-some clause (c.in-None.ensures ∙ stands))
