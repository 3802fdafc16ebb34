-- One literal more, a literal beside its negation, and the end.
use Rattle.std.proofs.Common.{◌≡◌, ◌<◌, ◌+◌, true, false, ℕ, ℤ, neg_ℤ, List, [], ◌∷◌, ◌++◌, take, sym, ap, ◌∙◌, subst}
use Rattle.std.proofs.lemmas.List.{take_all, take_more}
use Rattle.lrat_rules.specs.Chain.{literals_of}
use Rattle.drat_checker.specs.Trail.{IsApart}
use Rattle.drat_checker.proofs.FalseSets.{apart-push, own-literal}
use Rattle.drat_checker.proofs.Hinted.{apart-plain, marked-next, some-pair}
use Rattle.drat_checker.proofs.Settled.{front-false}
use Rattle.drat_checker.proofs.marks.is_tautology.Goals as goal

pub loop-literal-init : goal.loop-literal-init
loop-literal-init c = record {
  marked = λ x. ap (λ (l : List ℤ). literals_of l x) c.clear.ensures;
  apart = record { apart = λ x m. cc };
}

pub loop-literal-preserved : goal.loop-literal-preserved
loop-literal-preserved c =
    let i = c.loop-literal.literal-index in
    let clause = c.args.clause.now in
    let x = c.literal-item.result in
    let more : take (i + 1) clause ≡ take i clause ++ x ∷ [] =
    take_more clause i x c.loop-literal-test.true ∙ ap (λ y. take i clause ++ y ∷ []) (sym c.literal-item.is) in
    let absent : literals_of (take i clause) (neg_ℤ x) ≡ false =
    sym (c.loop-literal.invariant.marked (neg_ℤ x)) ∙ ap (literals_of c.loop-literal.marks) (sym c.negated.ensures)
    ∙ sym c.contains-beside.ensures ∙ c.if-beside.false in
    record {
      marked = λ y. marked-next c.loop-literal.marks c.mark.new.self clause i x c.in_ok-mark.ensures.ok more
          c.loop-literal.invariant.marked y;
      apart = subst IsApart (sym more)
          (apart-push (take i clause) x c.loop-literal.invariant.apart
          (subst (λ (n : ℕ). 0 < n) c.var-var.ensures.value c.var-var.ensures.range.0) absent);
    }

pub returns-then-beside : goal.returns-then-beside
returns-then-beside c =
    let i = c.loop-literal.literal-index in
    let clause = c.args.clause.now in
    let x = c.literal-item.result in
    let there : literals_of clause (neg_ℤ x) ≡ true =
    front-false clause i (neg_ℤ x)
    (sym (c.loop-literal.invariant.marked (neg_ℤ x)) ∙ ap (literals_of c.loop-literal.marks) (sym c.negated.ensures)
    ∙ sym c.contains-beside.ensures ∙ c.if-beside.true) in
    sym (some-pair clause clause x (own-literal clause i x c.loop-literal-test.true c.literal-item.is) there)

pub returns : goal.returns
returns c =
    sym (apart-plain c.args.clause.now
    (subst IsApart (take_all c.loop-literal.literal-index c.args.clause.now c.loop-literal-test.false) c.loop-literal.invariant.apart))
