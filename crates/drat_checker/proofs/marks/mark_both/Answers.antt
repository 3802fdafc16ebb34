-- One literal more, the pivot's negation, and the end.
use Rattle.std.proofs.Common.{◌≡◌, ◌++◌, true, false, not, ℤ, Bool, neg_ℤ, int_eq, List, sym, ap, ◌∙◌, subst}
use Rattle.std.proofs.lemmas.List.{append-nil, take_all}
use Rattle.drat_rules.specs.Addition.{others_of}
use Rattle.drat_checker.specs.Hints.{HasSame}
use Rattle.drat_checker.proofs.Hinted.{same-more, same-skip}
use Rattle.drat_checker.proofs.marks.mark_both.Goals as goal

pub loop-literal-init : goal.loop-literal-init
loop-literal-init c =
    subst (λ (l : List ℤ). HasSame c.mark_clause.new.marks l) (sym (append-nil c.args.clause.now)) c.in_ok-mark_clause.ensures

passed : (pivot negated x : ℤ) (b value : Bool) → negated ≡ neg_ℤ pivot → b ≡ int_eq x negated → b ≡ value
    → not (int_eq x (neg_ℤ pivot)) ≡ not value
passed pivot negated x b value negates tests is = ap (λ y. not (int_eq x y)) (sym negates) ∙ ap not (sym tests ∙ is)

pub loop-literal-preserved-then-eq : goal.loop-literal-preserved-then-eq
loop-literal-preserved-then-eq c =
    let x = c.literal-item.result in
    same-skip (λ y. not (int_eq y (neg_ℤ c.args.pivot))) c.args.clause.now c.args.other.now c.loop-literal.literal-index x
    c.loop-literal-test.true c.literal-item.is
    (passed c.args.pivot c.negated-negated.result x c.eq.result true c.negated-negated.ensures c.eq.ensures c.if-eq.true)
    c.loop-literal.marks c.loop-literal.invariant

pub loop-literal-preserved : goal.loop-literal-preserved
loop-literal-preserved c =
    let x = c.literal-item.result in
    same-more (λ y. not (int_eq y (neg_ℤ c.args.pivot))) c.args.clause.now c.args.other.now c.loop-literal.literal-index x
    c.loop-literal-test.true c.literal-item.is
    (passed c.args.pivot c.negated-negated.result x c.eq.result false c.negated-negated.ensures c.eq.ensures c.if-eq.false)
    c.loop-literal.marks c.mark.new.self c.in_ok-mark.ensures.ok c.loop-literal.invariant

pub returns : goal.returns
returns c =
    subst (λ (l : List ℤ). HasSame c.loop-literal.marks (c.args.clause.now ++ others_of c.args.pivot l))
    (take_all c.loop-literal.literal-index c.args.other.now c.loop-literal-test.false) c.loop-literal.invariant
