-- A literal more at the end, that wasn't there, as its negation wasn't.
use Rattle.std.proofs.Common.{◌≡◌, ◌<◌, ℕ, ◌||◌, false, ℤ, neg_ℤ, int_eq, List, [], ◌∷◌, ◌++◌, Option, length, sym, ◌∙◌, ap, subst}
use Rattle.lrat_rules.specs.Chain.{literals_of}
use Rattle.drat_checker.specs.Trail.{IsFalseList}
use Rattle.drat_checker.proofs.FalseLists.{false-kept, false-push}
use Rattle.drat_checker.proofs.false_list.FalseList.falsify.Goals as goal

pub invariant_of-self-in_err-put : goal.invariant_of-self-in_err-put
invariant_of-self-in_err-put c =
    let x = c.args.literal in
    let fresh : literals_of c.self.inside.literals.items x ≡ false =
    sym (c.self.invariant.flagged x) ∙ sym c.is_set-2.ensures ∙ c.if-is_set-2.false in
    subst (λ (l : List ℤ). IsFalseList c.reserve.new.self c.put.new.at l c.reserve-3.new.self.items) (sym c.reserve-2.ensures.items)
    (subst (λ (l : List (Option ℕ)). IsFalseList c.reserve.new.self c.put.new.at c.self.inside.literals.items l)
    (sym c.reserve-3.ensures.items) (false-kept c.self.invariant x fresh c.reserve.ensures.same c.put.ensures.others))

pub invariant_of-self-2 : goal.invariant_of-self-2
invariant_of-self-2 c =
    let literals = c.self.inside.literals.items in
    let x = c.args.literal in
    let absent : literals_of literals (neg_ℤ x) ≡ false =
    ap (literals_of literals) (sym c.negated.ensures) ∙ sym (c.self.invariant.flagged c.negated.result) ∙ sym c.is_set.ensures
    ∙ c.if-is_set.false in
    let fresh : literals_of literals x ≡ false = sym (c.self.invariant.flagged x) ∙ sym c.is_set-2.ensures ∙ c.if-is_set-2.false in
    subst (λ (l : List ℤ). IsFalseList c.set.new.self c.put.new.at l c.push_reserved-2.new.self.items) (sym (c.push_reserved.ensures.items
    ∙ ap (λ (l : List ℤ). l ++ x ∷ []) c.reserve-2.ensures.items))
    (subst (λ (l : List (Option ℕ)). IsFalseList c.set.new.self c.put.new.at (literals ++ x ∷ []) l)
    (sym (c.push_reserved-2.ensures.items ∙ ap (λ (l : List (Option ℕ)). l ++ c.args.reason ∷ []) c.reserve-3.ensures.items))
    (false-push c.self.invariant x c.args.reason (subst (λ (n : ℕ). 0 < n) c.var-var.ensures.value c.var-var.ensures.range.0) absent fresh
    (λ y. c.set.ensures.set y ∙ ap (λ b. int_eq y x || b) (c.reserve.ensures.same y)) c.put.ensures.others c.in_ok-place.place
    (c.in_ok-place.ensures ∙ ap length c.as_slice.ensures.value) c.in_ok-put.ensures.own))
