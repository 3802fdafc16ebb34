-- One literal more, and the end.
use Rattle.std.proofs.Common.{◌≡◌, false, ℤ, List, sym, ap, ◌∙◌}
use Rattle.std.proofs.lemmas.List.{take_all}
use Rattle.lrat_rules.specs.Chain.{literals_of}
use Rattle.drat_checker.proofs.Hinted.{each-literal}
use Rattle.drat_checker.proofs.hints.holds_one.Goals as goal

pub loop-literal-preserved : goal.loop-literal-preserved
loop-literal-preserved c =
    each-literal (λ (y : ℤ). literals_of c.args.taken.now y ≡ false) c.args.clause.now c.loop-literal.literal-index c.literal-item.result
    c.loop-literal-test.true c.literal-item.is c.loop-literal.invariant (sym c.contains-one.ensures ∙ c.if-one.false)

pub returns : goal.returns
returns c = λ is x m.
    c.loop-literal.invariant x
    (ap (λ (l : List ℤ). literals_of l x) (take_all c.loop-literal.literal-index c.args.clause.now c.loop-literal-test.false) ∙ m)
