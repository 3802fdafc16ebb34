-- One literal more that is false, the first that isn't, and the end.
use Rattle.std.proofs.Common.{◌≡◌, true, ℤ, List, refl, sym, ◌∙◌, subst}
use Rattle.std.specs.List.{list_all}
use Rattle.std.proofs.lemmas.List.{take_all}
use Rattle.lrat_rules.specs.Chain.{literals_of}
use Rattle.drat_checker.proofs.Picked.{held-at, one-more}
use Rattle.drat_checker.proofs.watches.first_outside.Goals as goal

pub loop-literal-init : goal.loop-literal-init
loop-literal-init c = refl

pub loop-literal-preserved : goal.loop-literal-preserved
loop-literal-preserved c =
    one-more (literals_of c.args.trail.now.literals) c.args.clause.now c.loop-literal.literal-index c.literal-item.result
    c.loop-literal-test.true
    c.literal-item.is (sym c.contains.ensures ∙ c.if-contains.true) c.loop-literal.invariant

pub returns-in-loop-literal-clause-found : goal.returns-in-loop-literal-clause-found
returns-in-loop-literal-clause-found c =
    held-at c.args.clause.now c.loop-literal.literal-index c.literal-item.result c.loop-literal-test.true c.literal-item.is

pub returns-in-loop-literal-clause-unfalse : goal.returns-in-loop-literal-clause-unfalse
returns-in-loop-literal-clause-unfalse c = sym c.contains.ensures ∙ c.if-contains.false

pub returns-clause-none : goal.returns-clause-none
returns-clause-none c = λ is.
    subst (λ (l : List ℤ). list_all (literals_of c.args.trail.now.literals) l ≡ true)
    (take_all c.loop-literal.literal-index c.args.clause.now c.loop-literal-test.false) c.loop-literal.invariant
