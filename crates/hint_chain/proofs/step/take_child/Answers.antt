-- A child without a literal, and one with a literal.
use Rattle.std.proofs.Common.{◌∙◌, ◌≤◌, ◌+◌, ℕ, Bool, List, true, neg_ℤ, ap, length, subst, sym}
use Rattle.lrat_rules.specs.Chain.{FalseSet, literals_of}
use Rattle.hint_chain.specs.Step.{GoesOn, hints_with}
use Rattle.hint_chain.proofs.StepHints.{falses_grow, goes_on_constant, goes_on_literal, hints_few}
use Rattle.hint_chain.proofs.step.take_child.Goals as goal

pub returns-in-Always-clause-goes_on : goal.returns-in-Always-clause-goes_on
returns-in-Always-clause-goes_on c part rest of =
    let n : FalseSet = literals_of c.args.falses.now in
    let hints = c.args.hints.now in
    subst (λ (after : List ℕ). GoesOn true hints after n n part rest) (sym c.push.ensures)
    (goes_on_constant n hints c.args.own.now part rest (λ literal is. let none : ⊥ = cc (c.in-Always.is, is) in none) of)

pub returns-in-Never-clause-goes_on : goal.returns-in-Never-clause-goes_on
returns-in-Never-clause-goes_on c part rest of =
    let n : FalseSet = literals_of c.args.falses.now in
    let hints = c.args.hints.now in
    subst (λ (after : List ℕ). GoesOn true hints after n n part rest) (sym c.push-in-Never.ensures)
    (goes_on_constant n hints c.args.own.now part rest (λ literal is. let none : ⊥ = cc (c.in-Never.is, is) in none) of)

pub returns-in-Of-clause-goes_on : goal.returns-in-Of-clause-goes_on
returns-in-Of-clause-goes_on c part rest of =
    let n : FalseSet = literals_of c.args.falses.now in
    let hints = c.args.hints.now in
    let literal = c.in-Of.literal in
    let done = c.choose_literal in
    subst (λ (b : Bool). GoesOn b hints done.new.hints n (literals_of done.new.falses) part rest) (sym done.ensures.conflict)
    (subst (λ (after : List ℕ). GoesOn (n literal) hints after n (literals_of done.new.falses) part rest) (sym done.ensures.hints)
    (subst (λ (m : FalseSet). GoesOn (n literal) hints (hints_with (n literal) (n (neg_ℤ literal)) hints c.args.own.now.id) n m part rest)
    (sym done.ensures.falses) (goes_on_literal n hints c.args.own.now literal c.in-Of.is part rest of)))

pub returns-in-Of-clause-grows : goal.returns-in-Of-clause-grows
returns-in-Of-clause-grows c y is =
    let n : FalseSet = literals_of c.args.falses.now in
    let literal = c.in-Of.literal in
    ap (λ (m : FalseSet). m y) c.choose_literal.ensures.falses ∙ falses_grow (n literal) (n (neg_ℤ literal)) literal n y is

pub returns-in-Of-clause-hints : goal.returns-in-Of-clause-hints
returns-in-Of-clause-hints c =
    let n : FalseSet = literals_of c.args.falses.now in
    let literal = c.in-Of.literal in
    subst (λ (after : List ℕ). length after ≤ length c.args.hints.now + 1) (sym c.choose_literal.ensures.hints)
    (hints_few (n literal) (n (neg_ℤ literal)) c.args.hints.now c.args.own.now.id)
