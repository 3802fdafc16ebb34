-- The first literal that clashes, and where there is none.
use Rattle.std.proofs.Common.{◌<◌, ℕ, ℤ, pos, neg_ℤ, List, None, refl, length, get_or, take, inl, inr, sym, ap, ◌∙◌, subst, arith}
use Rattle.lrat_rules.specs.Chain.{literals_of}
use Rattle.drat_checker.specs.Reasons.{AreFree}
use Rattle.drat_checker.specs.Hints.{IsFirstOpposed}
use Rattle.drat_checker.proofs.Lifts.{some-each}
use Rattle.drat_checker.proofs.hints.first_clash.Goals as goal

pub returns-in-None-clause-none : goal.returns-in-None-clause-none
returns-in-None-clause-none c = λ is.
    inl (record { none = subst (AreFree c.args.trail.now.literals) c.as_slice.ensures (c.in-None.ensures.none refl) })

pub reason-requires : goal.reason-requires
reason-requires c = c.in-Some.ensures.found.within

pub returns-in-Some-clause-clash : goal.returns-in-Some-clause-clash
returns-in-Some-clause-clash c =
    let trail = c.args.trail.now in
    let given = c.args.given.now in
    let found : IsFirstOpposed trail.literals given c.in-Some.place =
    subst (λ (l : List ℤ). IsFirstOpposed trail.literals l c.in-Some.place) c.as_slice.ensures c.in-Some.ensures.found in
    let within : c.in-Some.place < length trail.literals = found.within in
    some-each c.by_reason.result (λ first is. record {
      within = omega (arith, is.0, within);
      negation = ap (λ (k : ℕ). literals_of given (neg_ℤ (get_or trail.literals k (pos 0)))) is.0 ∙ found.negation;
      reason = ap (λ (k : ℕ). get_or trail.reasons k None) is.0 ∙ sym c.reason.ensures ∙ is.1;
      free = subst (λ (k : ℕ). AreFree (take k trail.literals) given) (sym is.0) found.free;
    }) c.by_reason.ensures.some

pub returns-in-Some-clause-none : goal.returns-in-Some-clause-none
returns-in-Some-clause-none c = λ is.
    let trail = c.args.trail.now in
    let found : IsFirstOpposed trail.literals c.args.given.now c.in-Some.place =
    subst (λ (l : List ℤ). IsFirstOpposed trail.literals l c.in-Some.place) c.as_slice.ensures c.in-Some.ensures.found in
    inr (record {
      place = c.in-Some.place;
      within = found.within;
      negation = found.negation;
      reason = sym c.reason.ensures ∙ c.by_reason.ensures.none is;
    })
