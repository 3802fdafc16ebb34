-- A literal besides the pivot's negation whose negation is in the clause.
use Rattle.std.proofs.Common.{◌≡◌, ℤ, Bool, true, false, not, ◌&&◌, neg_ℤ, int_eq, refl, sym, ◌∙◌, ap}
use Rattle.std.proofs.lemmas.List.{take_all}
use Rattle.lrat_rules.specs.Chain.{literals_of}
use Rattle.lrat_rules.specs.Addition.{is_blocked_by}
use Rattle.drat_checker.proofs.Resolvents.{blocked-at, blocked-next, clash-beside}
use Rattle.drat_checker.proofs.blocked.clashes.Goals as goal

pub loop-literal-init : goal.loop-literal-init
loop-literal-init c = refl

pub loop-literal-preserved-then-eq : goal.loop-literal-preserved-then-eq
loop-literal-preserved-then-eq c =
    let x = c.literal-item.result in
    blocked-next (literals_of c.args.clause.now) c.args.pivot c.args.other.now c.loop-literal.literal-index x c.loop-literal-test.true
    c.literal-item.is c.loop-literal.invariant
    (ap (λ b. not b && literals_of c.args.clause.now (neg_ℤ x))
    (ap (int_eq x) (sym c.negated-negated.ensures) ∙ sym c.eq.ensures ∙ c.if-eq.true))

and-false : (b : Bool) → (b && false) ≡ false
and-false true = refl
and-false false = refl

pub loop-literal-preserved : goal.loop-literal-preserved
loop-literal-preserved c =
    let x = c.literal-item.result in
    blocked-next (literals_of c.args.clause.now) c.args.pivot c.args.other.now c.loop-literal.literal-index x c.loop-literal-test.true
    c.literal-item.is c.loop-literal.invariant
    (ap (λ b. not (int_eq x (neg_ℤ c.args.pivot)) && b)
    (ap (literals_of c.args.clause.now) (sym c.negated.ensures) ∙ sym c.is_among-clash.ensures ∙ c.if-clash.false)
    ∙ and-false (not (int_eq x (neg_ℤ c.args.pivot))))

other : (pivot negated x : ℤ) (b : Bool) → negated ≡ neg_ℤ pivot → b ≡ int_eq x negated → b ≡ false → not (int_eq x (neg_ℤ pivot)) ≡ true
other pivot negated x b negates tests is = ap (λ y. not (int_eq x y)) (sym negates) ∙ ap not (sym tests ∙ is)

pub returns-then-clash-clause-clash : goal.returns-then-clash-clause-clash
returns-then-clash-clause-clash c = λ is.
    let x = c.literal-item.result in
    let passes = other c.args.pivot c.negated-negated.result x c.eq.result c.negated-negated.ensures c.eq.ensures c.if-eq.false in
    clash-beside (λ y. not (int_eq y (neg_ℤ c.args.pivot))) c.args.clause.now c.args.other.now c.loop-literal.literal-index x
    c.loop-literal-test.true c.literal-item.is passes
    (ap (literals_of c.args.clause.now) (sym c.negated.ensures) ∙ sym c.is_among-clash.ensures ∙ c.if-clash.true)

pub returns-then-clash-clause-blocked : goal.returns-then-clash-clause-blocked
returns-then-clash-clause-blocked c =
    let x = c.literal-item.result in
    let passes = other c.args.pivot c.negated-negated.result x c.eq.result c.negated-negated.ensures c.eq.ensures c.if-eq.false in
    sym (blocked-at (literals_of c.args.clause.now) c.args.pivot c.args.other.now c.loop-literal.literal-index x c.loop-literal-test.true
    c.literal-item.is passes
    (ap (literals_of c.args.clause.now) (sym c.negated.ensures) ∙ sym c.is_among-clash.ensures ∙ c.if-clash.true))

pub returns-clause-blocked : goal.returns-clause-blocked
returns-clause-blocked c =
    sym (ap (is_blocked_by (literals_of c.args.clause.now) c.args.pivot)
    (sym (take_all c.loop-literal.literal-index c.args.other.now c.loop-literal-test.false)) ∙ c.loop-literal.invariant)
