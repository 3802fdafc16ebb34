-- The pass over a clause.
use Rattle.std.proofs.Common.{◌≡◌, true, false, sym, ◌∙◌, rules}
use Rattle.lrat_rules.specs.Chain.{literals_of}
use Rattle.drat_checker.proofs.Passes.{step_false, step_forced, step_other, pass_end}
use Rattle.drat_checker.proofs.false_list.FalseList.effect_of.Goals as goal

pub loop-literal-preserved-then-contains : goal.loop-literal-preserved-then-contains
loop-literal-preserved-then-contains c =
    let is_false : literals_of c.args.self.now.literals c.literal-item.result ≡ true = search rules in
    step_false _ _ _ _ _ c.loop-literal-test.true c.literal-item.is _ is_false c.loop-literal.invariant

pub returns-then-not-force : goal.returns-then-not-force
returns-then-not-force c =
    let outside : literals_of c.args.self.now.literals c.literal-item.result ≡ false = search rules in
    step_other _ _ _ _ _ c.loop-literal-test.true c.literal-item.is _ (sym c.force.ensures.alone
    ∙ c.if-not-force.true) outside c.loop-literal.invariant

pub loop-literal-preserved : goal.loop-literal-preserved
loop-literal-preserved c =
    let outside : literals_of c.args.self.now.literals c.literal-item.result ≡ false = search rules in
    step_forced _ _ _ _ _ c.loop-literal-test.true c.literal-item.is _ _ c.force.ensures.forced (sym c.force.ensures.alone
    ∙ c.if-not-force.false) outside c.loop-literal.invariant

pub returns : goal.returns
returns c =
    c.effect_of_forced.ensures
    ∙ sym (pass_end (literals_of c.args.self.now.literals) c.args.clause.now c.loop-literal.literal-index c.loop-literal.forced
    c.loop-literal-test.false)
    ∙ c.loop-literal.invariant
