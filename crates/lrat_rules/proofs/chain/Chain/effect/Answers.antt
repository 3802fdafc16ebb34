-- Each step of the pass, and its end.
use Rattle.std.proofs.Common.{sym, ◌∙◌}
use Rattle.lrat_rules.specs.FalseLiterals.{set_of}
use Rattle.lrat_rules.proofs.Passes.{step_false, step_forced, step_other, pass_end}
use Rattle.lrat_rules.proofs.chain.Chain.effect.Goals as goal

pub loop-literal-preserved-then-contains : goal.loop-literal-preserved-then-contains
loop-literal-preserved-then-contains c =
    step_false _ _ _ _ _ c.loop-literal-test.true c.literal-item.is _ (sym c.contains.ensures ∙ c.if-contains.true) c.loop-literal.invariant

pub returns-then-not-force : goal.returns-then-not-force
returns-then-not-force c =
    step_other _ _ _ _ _ c.loop-literal-test.true c.literal-item.is _ (sym c.force.ensures.alone
    ∙ c.if-not-force.true) (sym c.contains.ensures ∙ c.if-contains.false) c.loop-literal.invariant

pub loop-literal-preserved : goal.loop-literal-preserved
loop-literal-preserved c =
    step_forced _ _ _ _ _ c.loop-literal-test.true c.literal-item.is _ _ c.force.ensures.forced (sym c.force.ensures.alone
    ∙ c.if-not-force.false) (sym c.contains.ensures ∙ c.if-contains.false) c.loop-literal.invariant

pub returns : goal.returns
returns c =
    c.effect_of_forced.ensures
    ∙ sym (pass_end (set_of c.args.self.now) c.args.clause.now c.loop-literal.literal-index c.loop-literal.forced c.loop-literal-test.false)
    ∙ c.loop-literal.invariant
