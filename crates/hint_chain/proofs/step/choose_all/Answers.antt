-- Each part that is a conflict ends the choice, and the last part is one where no other was.
use Rattle.std.proofs.Common.{◌∙◌, ℕ, Option, Some, ap, subst, sym}
use Rattle.lrat_rules.specs.Chain.{literals_of}
use Rattle.hint_chain.specs.Step.{IsNumbered, parts_in}
use Rattle.hint_chain.proofs.StepHints.{after_three, ends_at_last, ends_at_one, ends_at_three, ends_at_two, has_a_last}
use Rattle.hint_chain.proofs.step.choose_all.Goals as goal

pub returns-then-choose_child : goal.returns-then-choose_child
returns-then-choose_child c sides spells = ends_at_one c.args.parts.now sides spells
    (record { goes_on = c.choose_child.ensures.goes_on; grows = c.choose_child.ensures.grows })
    c.if-choose_child.true

pub returns-then-choose_child-2 : goal.returns-then-choose_child-2
returns-then-choose_child-2 c sides spells = ends_at_two c.args.parts.now sides spells
    (record { goes_on = c.choose_child.ensures.goes_on; grows = c.choose_child.ensures.grows })
    c.if-choose_child.false
    (record { goes_on = c.choose_child-2.ensures.goes_on; grows = c.choose_child-2.ensures.grows })
    c.if-choose_child-2.true

pub returns-then-choose_child-3 : goal.returns-then-choose_child-3
returns-then-choose_child-3 c sides spells = ends_at_three c.args.parts.now sides spells
    (record { goes_on = c.choose_child.ensures.goes_on; grows = c.choose_child.ensures.grows })
    c.if-choose_child.false
    (record { goes_on = c.choose_child-2.ensures.goes_on; grows = c.choose_child-2.ensures.grows })
    c.if-choose_child-2.false
    (record { goes_on = c.choose_child-3.ensures.goes_on; grows = c.choose_child-3.ensures.grows })
    c.if-choose_child-3.true

pub returns-in-Some : goal.returns-in-Some
returns-in-Some c sides spells =
    let goes = after_three c.args.parts.now sides spells
    (record { goes_on = c.choose_child.ensures.goes_on; grows = c.choose_child.ensures.grows })
    c.if-choose_child.false
    (record { goes_on = c.choose_child-2.ensures.goes_on; grows = c.choose_child-2.ensures.grows })
    c.if-choose_child-2.false
    (record { goes_on = c.choose_child-3.ensures.goes_on; grows = c.choose_child-3.ensures.grows })
    c.if-choose_child-3.false in
    ends_at_last c.args.hints.now c.choose_child-3.new.hints (literals_of c.args.falses.now) (literals_of c.choose_child-3.new.falses)
    (parts_in sides) sides.children spells.closes goes c.in-Some.id
    (subst (λ (own : Option ℕ). IsNumbered own sides.children) c.in-Some.is spells.children) ∙ ap Some (sym c.push.ensures)

pub returns-in-None : goal.returns-in-None
returns-in-None c sides spells =
    let goes = after_three c.args.parts.now sides spells
    (record { goes_on = c.choose_child.ensures.goes_on; grows = c.choose_child.ensures.grows })
    c.if-choose_child.false
    (record { goes_on = c.choose_child-2.ensures.goes_on; grows = c.choose_child-2.ensures.grows })
    c.if-choose_child-2.false
    (record { goes_on = c.choose_child-3.ensures.goes_on; grows = c.choose_child-3.ensures.grows })
    c.if-choose_child-3.false in
    absurd (has_a_last c.args.hints.now c.choose_child-3.new.hints (literals_of c.args.falses.now) (literals_of c.choose_child-3.new.falses)
    (parts_in sides) sides.children spells.closes goes
    (subst (λ (own : Option ℕ). IsNumbered own sides.children) c.in-None.is spells.children))
