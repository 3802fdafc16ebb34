-- The literal is false, it is true, or it is forced.
use Rattle.std.proofs.Common.{◌≡◌, ◌∙◌, List, ℤ, true, false, neg_ℤ, ap, refl, sym}
use Rattle.lrat_rules.specs.Chain.{literals_of, with_literal}
use Rattle.hint_chain.proofs.Sets.{literals_of-push}
use Rattle.hint_chain.proofs.step.choose_literal.Goals as goal

pub returns-then-is_among-clause-hints : goal.returns-then-is_among-clause-hints
returns-then-is_among-clause-hints c =
    let here : literals_of c.args.falses.now c.args.literal ≡ true =
    sym (c.is_among.ensures ∙ ap (λ (l : List ℤ). literals_of l c.args.literal) c.as_slice.ensures.literals) ∙ c.if-is_among.true in
    rw here c.push.ensures

pub returns-then-is_among-clause-falses : goal.returns-then-is_among-clause-falses
returns-then-is_among-clause-falses c =
    let here : literals_of c.args.falses.now c.args.literal ≡ true =
    sym (c.is_among.ensures ∙ ap (λ (l : List ℤ). literals_of l c.args.literal) c.as_slice.ensures.literals) ∙ c.if-is_among.true in
    rw here refl

pub returns-then-is_among-2-clause-hints : goal.returns-then-is_among-2-clause-hints
returns-then-is_among-2-clause-hints c =
    let here : literals_of c.args.falses.now c.args.literal ≡ false =
    sym (c.is_among.ensures ∙ ap (λ (l : List ℤ). literals_of l c.args.literal) c.as_slice.ensures.literals) ∙ c.if-is_among.false in
    let other : literals_of c.args.falses.now (neg_ℤ c.args.literal) ≡ true =
    sym (c.is_among-2.ensures ∙ (λ i. literals_of (c.as_slice-2.ensures.literals i) (c.negated-negated.ensures i))) ∙ c.if-is_among-2.true in
    rw (here, other) refl

pub returns-then-is_among-2-clause-falses : goal.returns-then-is_among-2-clause-falses
returns-then-is_among-2-clause-falses c =
    let here : literals_of c.args.falses.now c.args.literal ≡ false =
    sym (c.is_among.ensures ∙ ap (λ (l : List ℤ). literals_of l c.args.literal) c.as_slice.ensures.literals) ∙ c.if-is_among.false in
    let other : literals_of c.args.falses.now (neg_ℤ c.args.literal) ≡ true =
    sym (c.is_among-2.ensures ∙ (λ i. literals_of (c.as_slice-2.ensures.literals i) (c.negated-negated.ensures i))) ∙ c.if-is_among-2.true in
    rw (here, other) refl

pub returns-clause-hints : goal.returns-clause-hints
returns-clause-hints c =
    let here : literals_of c.args.falses.now c.args.literal ≡ false =
    sym (c.is_among.ensures ∙ ap (λ (l : List ℤ). literals_of l c.args.literal) c.as_slice.ensures.literals) ∙ c.if-is_among.false in
    let other : literals_of c.args.falses.now (neg_ℤ c.args.literal) ≡ false =
    sym (c.is_among-2.ensures ∙ (λ i. literals_of (c.as_slice-2.ensures.literals i) (c.negated-negated.ensures i))) ∙ c.if-is_among-2.false in
    rw (here, other) c.push-2.ensures

pub returns-clause-falses : goal.returns-clause-falses
returns-clause-falses c =
    let here : literals_of c.args.falses.now c.args.literal ≡ false =
    sym (c.is_among.ensures ∙ ap (λ (l : List ℤ). literals_of l c.args.literal) c.as_slice.ensures.literals) ∙ c.if-is_among.false in
    let other : literals_of c.args.falses.now (neg_ℤ c.args.literal) ≡ false =
    sym (c.is_among-2.ensures ∙ (λ i. literals_of (c.as_slice-2.ensures.literals i) (c.negated-negated.ensures i))) ∙ c.if-is_among-2.false in
    rw (here, other) (ap literals_of c.push-3.ensures ∙ literals_of-push c.args.falses.now c.negated-negated.result
    ∙ ap (λ (x : ℤ). with_literal x (literals_of c.args.falses.now)) c.negated-negated.ensures)
