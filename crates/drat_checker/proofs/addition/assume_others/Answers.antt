-- One literal more, one that is passed over, a clash, and the end of the clause.
use Rattle.std.proofs.Common.{◌≡◌, ℤ, Bool, true, false, None, not, ◌&&◌, neg_ℤ, int_eq, sym, ◌∙◌, ap}
use Rattle.std.specs.List.{list_all}
use Rattle.std.proofs.lemmas.List.{take_all}
use Rattle.lrat_rules.specs.Trail.{with_last}
use Rattle.drat_rules.specs.Addition.{others_of}
use Rattle.drat_checker.proofs.FalseSets.{and_nothing, others-skip, others-more, others-clash, own-other}
use Rattle.drat_checker.proofs.Reasoned.{clash-held, keeps-any, keeps-assumed, keeps-falsified, keeps-then}
use Rattle.drat_checker.specs.Propagation.{Extends}
use Rattle.drat_checker.specs.Trail.{with_reason}
use Rattle.drat_checker.proofs.Propagated.{extends-none, extends-then, extends-last, either, unclashed, extends-is}
use Rattle.drat_checker.proofs.addition.assume_others.Goals as goal

pub loop-literal-init : goal.loop-literal-init
loop-literal-init c = record {
  extends = extends-none c.args.trail.now.literals;
  reasons = λ places. keeps-any places (others_of c.args.pivot c.args.clause.now) c.args.trail.now;
  others = λ q. and_nothing (list_all q c.args.trail.now.literals);
}

-- the literal isn't the pivot's negation, or it is
other : (pivot negated x : ℤ) (b : Bool) → negated ≡ neg_ℤ pivot → b ≡ int_eq x negated → b ≡ false → not (int_eq x (neg_ℤ pivot)) ≡ true
other pivot negated x b negates tests is = ap (λ y. not (int_eq x y)) (sym negates) ∙ ap not (sym tests ∙ is)

same : (pivot negated x : ℤ) (b : Bool) → negated ≡ neg_ℤ pivot → b ≡ int_eq x negated → b ≡ true → not (int_eq x (neg_ℤ pivot)) ≡ false
same pivot negated x b negates tests is = ap (λ y. not (int_eq x y)) (sym negates) ∙ ap not (sym tests ∙ is)

pub loop-literal-preserved-then-eq : goal.loop-literal-preserved-then-eq
loop-literal-preserved-then-eq c =
    let x = c.literal-item.result in
    let fails = same c.args.pivot c.negated-negated.result x c.eq.result c.negated-negated.ensures c.eq.ensures c.if-eq.true in
    record {
      extends = c.loop-literal.invariant.extends;
      reasons = c.loop-literal.invariant.reasons;
      others = λ q. others-skip (λ y. not (int_eq y (neg_ℤ c.args.pivot))) c.args.trail.now.literals c.loop-literal.trail.literals
          c.args.clause.now
          c.loop-literal.literal-index x c.loop-literal-test.true c.literal-item.is q fails (c.loop-literal.invariant.others q);
    }

pub loop-literal-preserved : goal.loop-literal-preserved
loop-literal-preserved c =
    let x = c.literal-item.result in
    let old = c.loop-literal.trail.literals in
    let passes = other c.args.pivot c.negated-negated.result x c.eq.result c.negated-negated.ensures c.eq.ensures c.if-eq.false in
    let new = unclashed c.in_ok-clash.clash c.falsify.new.self.literals old (with_last x old) c.if-clash.false
    c.in_ok-clash.ensures.literals in
    record {
      extends = extends-then c.loop-literal.invariant.extends (extends-is new (extends-last x old));
      reasons = λ places. keeps-then (c.loop-literal.invariant.reasons places)
          (keeps-falsified c.in_ok-clash.clash (with_reason x None c.loop-literal.trail)
          (keeps-assumed places (others_of c.args.pivot c.args.clause.now) c.loop-literal.trail x
          (own-other (λ y. not (int_eq y (neg_ℤ c.args.pivot))) c.args.trail.now.literals c.loop-literal.trail.literals c.args.clause.now
          c.loop-literal.literal-index x c.loop-literal-test.true c.literal-item.is passes)) c.in_ok-clash.ensures.reasons);
      others = λ q. others-more (λ y. not (int_eq y (neg_ℤ c.args.pivot))) c.args.trail.now.literals old c.args.clause.now
          c.loop-literal.literal-index x c.loop-literal-test.true c.literal-item.is q c.falsify.new.self.literals passes new
          (c.loop-literal.invariant.others q);
    }

pub returns-then-clash-clause-clash : goal.returns-then-clash-clause-clash
returns-then-clash-clause-clash c = λ is.
    let x = c.literal-item.result in
    let passes = other c.args.pivot c.negated-negated.result x c.eq.result c.negated-negated.ensures c.eq.ensures c.if-eq.false in
    others-clash (λ y. not (int_eq y (neg_ℤ c.args.pivot))) c.args.trail.now.literals c.loop-literal.trail.literals c.args.clause.now
    c.loop-literal.literal-index x c.loop-literal-test.true c.literal-item.is c.loop-literal.invariant.others passes
    (sym c.in_ok-clash.ensures.clash ∙ c.if-clash.true)

pub returns-then-clash-clause-held : goal.returns-then-clash-clause-held
returns-then-clash-clause-held c =
    let x = c.literal-item.result in
    let passes = other c.args.pivot c.negated-negated.result x c.eq.result c.negated-negated.ensures c.eq.ensures c.if-eq.false in
    clash-held c.falsify.new.self (others_of c.args.pivot c.args.clause.now) c.in_ok-clash.clash c.loop-literal.trail.literals
    (with_last x c.loop-literal.trail.literals) x c.if-clash.true c.in_ok-clash.ensures.literals c.in_ok-clash.ensures.clash
    (own-other (λ y. not (int_eq y (neg_ℤ c.args.pivot))) c.args.trail.now.literals c.loop-literal.trail.literals c.args.clause.now
    c.loop-literal.literal-index x c.loop-literal-test.true c.literal-item.is passes)

pub returns-then-clash-clause-extends : goal.returns-then-clash-clause-extends
returns-then-clash-clause-extends c =
    let x = c.literal-item.result in
    let old = c.loop-literal.trail.literals in
    extends-then c.loop-literal.invariant.extends
    (either (Extends old) c.in_ok-clash.clash c.falsify.new.self.literals old (with_last x old) (extends-none old) (extends-last x old)
    c.in_ok-clash.ensures.literals)

pub returns-then-clash-clause-reasons : goal.returns-then-clash-clause-reasons
returns-then-clash-clause-reasons c = λ places.
    let x = c.literal-item.result in
    let passes = other c.args.pivot c.negated-negated.result x c.eq.result c.negated-negated.ensures c.eq.ensures c.if-eq.false in
    keeps-then (c.loop-literal.invariant.reasons places)
    (keeps-falsified c.in_ok-clash.clash (with_reason x None c.loop-literal.trail)
    (keeps-assumed places (others_of c.args.pivot c.args.clause.now) c.loop-literal.trail x
    (own-other (λ y. not (int_eq y (neg_ℤ c.args.pivot))) c.args.trail.now.literals c.loop-literal.trail.literals c.args.clause.now
    c.loop-literal.literal-index x c.loop-literal-test.true c.literal-item.is passes)) c.in_ok-clash.ensures.reasons)

pub returns-clause-reasons : goal.returns-clause-reasons
returns-clause-reasons c = c.loop-literal.invariant.reasons

pub returns-clause-also : goal.returns-clause-also
returns-clause-also c = λ is. record {
  also = λ q. c.loop-literal.invariant.others q
      ∙ ap (λ l. list_all q c.args.trail.now.literals && list_all q (others_of c.args.pivot l))
      (take_all c.loop-literal.literal-index c.args.clause.now c.loop-literal-test.false);
}

pub returns-clause-extends : goal.returns-clause-extends
returns-clause-extends c = c.loop-literal.invariant.extends
