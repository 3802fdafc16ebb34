-- One literal more that is that one, the first that isn't, and the end.
use Rattle.std.proofs.Common.{◌≡◌, true, int_eq, ℤ, List, refl, sym, ◌∙◌, subst}
use Rattle.std.specs.List.{list_all}
use Rattle.std.proofs.lemmas.List.{take_all}
use Rattle.drat_checker.proofs.FalseSets.{int_eq-true, eq-int_eq}
use Rattle.drat_checker.proofs.Picked.{held-at, one-more}
use Rattle.drat_checker.proofs.watches.other_than.Goals as goal

pub loop-literal-init : goal.loop-literal-init
loop-literal-init c = refl

pub loop-literal-preserved : goal.loop-literal-preserved
loop-literal-preserved c =
    one-more (int_eq c.args.other) c.args.literals.now c.loop-literal.literal-index c.literal-item.result c.loop-literal-test.true
    c.literal-item.is
    (eq-int_eq c.args.other c.literal-item.result (sym (int_eq-true c.literal-item.result c.args.other (sym c.eq.ensures ∙ c.if-eq.true))))
    c.loop-literal.invariant

pub returns-in-loop-literal-clause-found : goal.returns-in-loop-literal-clause-found
returns-in-loop-literal-clause-found c =
    held-at c.args.literals.now c.loop-literal.literal-index c.literal-item.result c.loop-literal-test.true c.literal-item.is

pub returns-in-loop-literal-clause-differs : goal.returns-in-loop-literal-clause-differs
returns-in-loop-literal-clause-differs c = sym c.eq.ensures ∙ c.if-eq.false

pub returns-clause-none : goal.returns-clause-none
returns-clause-none c = λ is.
    subst (λ (l : List ℤ). list_all (int_eq c.args.other) l ≡ true)
    (take_all c.loop-literal.literal-index c.args.literals.now c.loop-literal-test.false) c.loop-literal.invariant
