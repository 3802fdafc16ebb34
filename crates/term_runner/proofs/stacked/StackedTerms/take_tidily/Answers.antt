-- Behind a move that succeeded the nodes are few, or those that its terms reach.
use Rattle.std.proofs.Common.{◌≡◌, ◌≤◌, ℕ, Bool, Ok, Result, refl, sym, subst, inl, inr}
use Rattle.std.proofs.lemmas.Bool.{cases_lt}
use Rattle.node_table.specs.declared.error.TableError.{TableError}
use Rattle.node_table.specs.HandedOn.{handed_on}
use Rattle.term_runner.specs.Moves.{Moved}
use Rattle.bdd_terms.specs.Tidy.{IsTidy}
use Rattle.schedule_plan.specs.SetMove.{move_in_order}
use Rattle.term_runner.proofs.Moved.{moved_back, moved_full}
use Rattle.bdd_terms.proofs.Units.{not_both}
use Rattle.term_runner.proofs.stacked.StackedTerms.take_tidily.Goals as goal

many : {live nodes : ℕ} (left : ℕ) → live ≡ nodes → IsTidy nodes left → IsTidy live left
many left same tidy = subst (λ (n : ℕ). IsTidy n left) (sym same) tidy

-- there are at least a thousand
many_nodes : (live left : ℕ) → (IsTidy live left → ⊥) → 1000 ≤ live
many_nodes live left untidy = elim (cases_lt live 1000) [
  | inl few ↦ absurd (untidy (inl few))
  | inr many ↦ many
]

pub returns-in_err-refuted-clause-moved : goal.returns-in_err-refuted-clause-moved
returns-in_err-refuted-clause-moved g c stage next at leads =
    let came = c.in_err-refuted.field-0.0 in
    subst (λ (r : Result Bool TableError). Moved c.args.formula.now stage next c.args.self.now c.try_twice.new.self r)
    (sym (handed_on _ came came c.from_residual.ensures.1 refl)) (c.in_err-refuted.ensures stage next at leads)

pub returns-then-refuted-clause-moved : goal.returns-then-refuted-clause-moved
returns-then-refuted-clause-moved g c = c.in_ok-refuted.ensures

pub returns-then-is_tidy-clause-moved : goal.returns-then-is_tidy-clause-moved
returns-then-is_tidy-clause-moved g c = c.in_ok-refuted.ensures

pub give_back-requires-clause-ready : goal.give_back-requires-clause-ready
give_back-requires-clause-ready g c =
    let begun = c.requires in
    (c.in_ok-refuted.ensures begun.stage begun.next begun.at begun.leads).ready

pub give_back-requires-clause-possible : goal.give_back-requires-clause-possible
give_back-requires-clause-possible g c =
    let begun = c.requires in
    (begun.next, (c.in_ok-refuted.ensures begun.stage begun.next begun.at begun.leads).held c.if-refuted.false)

pub give_back-requires-clause-own : goal.give_back-requires-clause-own
give_back-requires-clause-own g c =
    let begun = c.requires in
    (c.in_ok-refuted.ensures begun.stage begun.next begun.at begun.leads).own c.if-refuted.false

pub returns-in_err-self-clause-moved : goal.returns-in_err-self-clause-moved
returns-in_err-self-clause-moved g c stage next at leads =
    let came = c.in_err-self.field-0.0 in
    let back = c.in_err-self.ensures in
    let own = subst (λ (refuted : Bool). Moved c.args.formula.now stage next c.args.self.now c.try_twice.new.self (Ok refuted))
    c.if-refuted.false (c.in_ok-refuted.ensures stage next at leads) in
    moved_full c.canonical_law.ensures c.steps_law.ensures c.args.formula.now stage next
    (move_in_order c.args.self.now.table.graph.order c.args.step.now) leads c.args.self.now
    c.try_twice.new.self c.give_back.new.self own
    (λ tidy. not_both c.is_tidy.result (c.is_tidy.ensures.1 (many _ c.live.ensures tidy)) c.if-is_tidy.false)
    c.give_back.ensures.top c.give_back.ensures.sizes _ came (handed_on _ came came c.from_residual-in_err-self.ensures.1 refl) back.error
    back.leaves back.kept c.give_back.ensures.same.1

pub returns-clause-moved : goal.returns-clause-moved
returns-clause-moved g c stage next at leads =
    let back = c.in_ok-self.ensures in
    let own = subst (λ (refuted : Bool). Moved c.args.formula.now stage next c.args.self.now c.try_twice.new.self (Ok refuted))
    c.if-refuted.false (c.in_ok-refuted.ensures stage next at leads) in
    subst (λ (refuted : Bool). Moved c.args.formula.now stage next c.args.self.now
    (record c.give_back.new.self { left = c.in_ok-self.field-0 }) (Ok refuted)) (sym c.if-refuted.false)
    (moved_back c.canonical_law.ensures c.steps_law.ensures c.args.formula.now stage next
    (move_in_order c.args.self.now.table.graph.order c.args.step.now) leads c.args.self.now
    c.try_twice.new.self (record c.give_back.new.self { left = c.in_ok-self.field-0 }) own
    (λ tidy. not_both c.is_tidy.result (c.is_tidy.ensures.1 (many _ c.live.ensures tidy)) c.if-is_tidy.false)
    c.give_back.ensures.top c.give_back.ensures.sizes
    c.subfunction_law.ensures c.requires.ready.over.sound.tied.ordered back.leaves (back.at next (own.held refl)) back.ready back.settled
    back.own back.reached back.count (back.alone (many_nodes _ _ (λ tidy. not_both c.is_tidy.result
    (c.is_tidy.ensures.1 (many _ c.live.ensures tidy)) c.if-is_tidy.false))))
