-- One literal more, one that is picked, and the end.
use Rattle.std.proofs.Common.{◌≡◌, ◌||◌, true, ℤ, int_eq, List, refl, sym, ◌∙◌, subst}
use Rattle.std.proofs.lemmas.Bool.{or_left, or_right}
use Rattle.std.proofs.lemmas.List.{take_all}
use Rattle.lrat_rules.specs.Chain.{literals_of}
use Rattle.drat_checker.specs.Watches.{is_last}
use Rattle.drat_checker.proofs.Picked.{held-at, one-more}
use Rattle.drat_checker.proofs.watches.find.Goals as goal

pub loop-literal-init : goal.loop-literal-init
loop-literal-init c = refl

pub loop-literal-preserved-then-eq : goal.loop-literal-preserved-then-eq
loop-literal-preserved-then-eq c =
    one-more (λ y. int_eq y c.args.other || literals_of c.args.trail.now.literals y) c.args.clause.now c.loop-literal.literal-index
    c.literal-item.result c.loop-literal-test.true c.literal-item.is (or_left _ _ (sym c.eq.ensures
    ∙ c.if-eq.true)) c.loop-literal.invariant

pub loop-literal-preserved : goal.loop-literal-preserved
loop-literal-preserved c =
    one-more (λ y. int_eq y c.args.other || literals_of c.args.trail.now.literals y) c.args.clause.now c.loop-literal.literal-index
    c.literal-item.result c.loop-literal-test.true c.literal-item.is
    (or_right (int_eq c.literal-item.result c.args.other) _ (sym c.contains.ensures ∙ c.if-contains.true)) c.loop-literal.invariant

pub returns-in-loop-literal-clause-found : goal.returns-in-loop-literal-clause-found
returns-in-loop-literal-clause-found c =
    held-at c.args.clause.now c.loop-literal.literal-index c.literal-item.result c.loop-literal-test.true c.literal-item.is

pub returns-in-loop-literal-clause-unfalse : goal.returns-in-loop-literal-clause-unfalse
returns-in-loop-literal-clause-unfalse c = sym c.contains.ensures ∙ c.if-contains.false

pub returns-in-loop-literal-clause-differs : goal.returns-in-loop-literal-clause-differs
returns-in-loop-literal-clause-differs c = sym c.eq.ensures ∙ c.if-eq.false

pub returns-clause-none : goal.returns-clause-none
returns-clause-none c = λ is.
    subst (λ (l : List ℤ). is_last c.args.trail.now.literals c.args.other l ≡ true)
    (take_all c.loop-literal.literal-index c.args.clause.now c.loop-literal-test.false) c.loop-literal.invariant
