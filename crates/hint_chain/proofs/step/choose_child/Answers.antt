-- No part, and one.
use Rattle.std.proofs.Common.{Option, subst}
use Rattle.lrat_rules.specs.Chain.{literals_of}
use Rattle.hint_chain.specs.declared.step.ChildPart.{ChildPart}
use Rattle.hint_chain.specs.Step.{AreOfChild}
use Rattle.hint_chain.proofs.StepHints.{goes_on_none}
use Rattle.hint_chain.proofs.step.choose_child.Goals as goal

pub returns-in-None-clause-goes_on : goal.returns-in-None-clause-goes_on
returns-in-None-clause-goes_on c part rest of =
    goes_on_none (literals_of c.args.falses.now) c.args.hints.now part rest
    (subst (λ (own : Option ChildPart). AreOfChild (literals_of c.args.falses.now) own part) c.in-None.is of)

pub returns-in-Some-clause-goes_on : goal.returns-in-Some-clause-goes_on
returns-in-Some-clause-goes_on c part rest of =
    c.take_child.ensures.goes_on part rest
    (subst (λ (own : Option ChildPart). AreOfChild (literals_of c.args.falses.now) own part) c.in-Some.is of)
