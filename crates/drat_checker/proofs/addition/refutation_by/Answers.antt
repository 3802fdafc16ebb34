-- One literal more, one whose negation is false, and the end.
use Rattle.std.proofs.Common.{◌≡◌, false, ℤ, List, neg_ℤ, sym, ap, ◌∙◌}
use Rattle.std.proofs.Math.IntN.{neg_ℤ-neg_ℤ}
use Rattle.std.proofs.lemmas.Bool.{both_ways, false_from_ne_true}
use Rattle.std.proofs.lemmas.List.{take_all}
use Rattle.lrat_rules.specs.Chain.{literals_of}
use Rattle.drat_checker.proofs.FalseSets.{own-literal}
use Rattle.drat_checker.proofs.Hinted.{each-literal}
use Rattle.drat_checker.proofs.addition.refutation_by.Goals as goal

pub loop-literal-preserved : goal.loop-literal-preserved
loop-literal-preserved c =
    let literals = c.args.trail.now.literals in
    each-literal (λ (y : ℤ). literals_of literals (neg_ℤ y) ≡ false) c.args.clause.now c.loop-literal.literal-index c.literal-item.result
    c.loop-literal-test.true c.literal-item.is c.loop-literal.invariant
    (ap (literals_of literals) (sym c.negated.ensures) ∙ sym c.contains-clash.ensures ∙ c.if-clash.false)

pub returns-then-clash : goal.returns-then-clash
returns-then-clash c = λ places falsified. record {
  own = own-literal c.args.clause.now c.loop-literal.literal-index c.literal-item.result c.loop-literal-test.true c.literal-item.is;
  negation = ap (literals_of c.args.trail.now.literals) (sym c.negated.ensures) ∙ sym c.contains-clash.ensures ∙ c.if-clash.true;
}

pub returns : goal.returns
returns c = λ places falsified.
    let literals = c.args.trail.now.literals in (
      falsified,
      record {
        free = λ x m. false_from_ne_true _ (λ own.
            both_ways (literals_of literals (neg_ℤ (neg_ℤ x)))
            (c.loop-literal.invariant (neg_ℤ x)
            (ap (λ (l : List ℤ). literals_of l (neg_ℤ x)) (take_all c.loop-literal.literal-index c.args.clause.now c.loop-literal-test.false)
            ∙ own))
            (ap (literals_of literals) (neg_ℤ-neg_ℤ x) ∙ m));
      },
    )
