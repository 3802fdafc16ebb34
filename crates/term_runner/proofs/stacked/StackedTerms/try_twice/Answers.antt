-- A move that was refused is tried once more over the nodes that its terms reach.
use Rattle.std.proofs.Common.{◌≡◌, ◌∙◌, ◌≤◌, ℕ, false, Err, refl, ap, sym, subst, arith}
use Rattle.std.proofs.lemmas.Bool.{ltb-false}
use Rattle.node_table.specs.declared.error.TableError.{TableError}
use Rattle.node_table.specs.HandedOn.{handed_on, no_error, same_error}
use Rattle.node_table.specs.Refused.{no_nodes_left}
use Rattle.term_runner.specs.Moves.{Tried}
use Rattle.term_runner.specs.Width.{keeps_trail}
use Rattle.schedule_plan.specs.SetMove.{move_in_order}
use Rattle.term_runner.proofs.Between.{leads_here}
use Rattle.term_runner.proofs.Tried.{moved_again, moved_at_once, moved_refused}
use Rattle.bdd_terms.proofs.Units.{not_both}
use Rattle.term_runner.proofs.stacked.StackedTerms.try_twice.Goals as goal

-- where the trail's terms don't stand among the nodes, a thousand are allowed, and so many there are at the limit
many_nodes : (most live : ℕ) → keeps_trail most ≡ false → most ≤ live → 1000 ≤ live
many_nodes most live none all = omega (arith, ltb-false most 1000 none, all)

pub give_back-requires-clause-ready : goal.give_back-requires-clause-ready
give_back-requires-clause-ready g c =
    let begun = c.requires in
    (c.in-Err.ensures.tried begun.stage begun.next begun.at begun.leads).ready
    (λ torn. no_nodes_left (sym (c.is_node_limit.ensures.0 c.if-is_node_limit.true) ∙ same_error torn))

pub give_back-requires-clause-possible : goal.give_back-requires-clause-possible
give_back-requires-clause-possible g c =
    let begun = c.requires in (
      begun.stage,
      (c.in-Err.ensures.tried begun.stage begun.next begun.at begun.leads).at_again
          (ap Err (c.is_node_limit.ensures.0 c.if-is_node_limit.true)),
    )

pub give_back-requires-clause-own : goal.give_back-requires-clause-own
give_back-requires-clause-own g c =
    let begun = c.requires in
    (c.in-Err.ensures.tried begun.stage begun.next begun.at begun.leads).again
    (ap Err (c.is_node_limit.ensures.0 c.if-is_node_limit.true))

pub try_move-requires-in-Err : goal.try_move-requires-in-Err
try_move-requires-in-Err g c =
    let begun = c.requires in
    let limit = ap Err (c.is_node_limit.ensures.0 c.if-is_node_limit.true) in
    let back = c.in_ok-self-in-Err.ensures in
    record {
      ready = back.ready;
      settled = back.settled;
      own = back.own;
      stage = begun.stage;
      next = begun.next;
      at = back.at begun.stage ((c.in-Err.ensures.tried begun.stage begun.next begun.at begun.leads).at_again limit);
      leads = leads_here c.args.formula.now _ _ begun.stage begun.next c.args.step.now
          (sym (back.leaves.order ∙ (subst (λ (e : TableError). Tried c.args.formula.now begun.stage begun.next c.args.self.now
          c.try_move.new.self (Err e)) (c.is_node_limit.ensures.0 c.if-is_node_limit.true)
          (c.in-Err.ensures.tried begun.stage begun.next begun.at begun.leads)).leaves.0.order)) begun.leads;
    }

pub returns-in-Ok : goal.returns-in-Ok
returns-in-Ok g c stage next at leads =
    moved_at_once c.growth_law.ensures c.canonical_law.ensures c.args.formula.now stage next
    (move_in_order c.args.self.now.table.graph.order c.args.step.now) leads c.args.self.now
    c.try_move.new.self _ c.in-Ok.ensures.settled no_error (c.in-Ok.ensures.tried stage next at leads)

pub returns-in-Err-2 : goal.returns-in-Err-2
returns-in-Err-2 g c stage next at leads =
    moved_at_once c.growth_law.ensures c.canonical_law.ensures c.args.formula.now stage next
    (move_in_order c.args.self.now.table.graph.order c.args.step.now) leads c.args.self.now
    c.try_move.new.self _ c.in-Err.ensures.settled
    (λ limit. not_both c.is_node_limit.result (c.is_node_limit.ensures.1 (same_error limit)) c.if-is_node_limit.false)
    (c.in-Err.ensures.tried stage next at leads)

pub returns-in_err-self-in-Err : goal.returns-in_err-self-in-Err
returns-in_err-self-in-Err g c stage next at leads =
    let came = c.in_err-self-in-Err.field-0.0 in
    let back = c.in_err-self-in-Err.ensures in
    let first = subst (λ (e : TableError). Tried c.args.formula.now stage next c.args.self.now c.try_move.new.self (Err e))
    (c.is_node_limit.ensures.0 c.if-is_node_limit.true) (c.in-Err.ensures.tried stage next at leads) in
    moved_refused c.growth_law.ensures c.canonical_law.ensures c.steps_law.ensures c.args.formula.now stage next
    (move_in_order c.args.self.now.table.graph.order c.args.step.now) leads
    c.args.self.now c.try_move.new.self c.give_back.new.self first c.give_back.ensures.top c.give_back.ensures.sizes _ came
    (handed_on _ came came c.from_residual.ensures.1 refl) back.error back.leaves back.kept c.give_back.ensures.same.1

pub returns-in_ok-self-in-Err : goal.returns-in_ok-self-in-Err
returns-in_ok-self-in-Err g c stage next at leads =
    let limit = c.is_node_limit.ensures.0 c.if-is_node_limit.true in
    let back = c.in_ok-self-in-Err.ensures in
    let first = subst (λ (e : TableError). Tried c.args.formula.now stage next c.args.self.now c.try_move.new.self (Err e)) limit
    (c.in-Err.ensures.tried stage next at leads) in
    let at_mid = back.at stage ((c.in-Err.ensures.tried stage next at leads).at_again (ap Err limit)) in
    moved_again c.growth_law.ensures c.canonical_law.ensures c.steps_law.ensures c.args.formula.now stage next
    (move_in_order c.args.self.now.table.graph.order c.args.step.now) leads
    c.args.self.now c.try_move.new.self (record c.give_back.new.self { left = c.in_ok-self-in-Err.field-0 }) first c.give_back.ensures.top
    c.give_back.ensures.sizes
    c.subfunction_law.ensures c.requires.ready.over.sound.tied.ordered back.leaves at_mid back.reached back.count
    (λ none. back.alone (many_nodes c.args.self.now.table.max_nodes _ none
    (omega (arith, first.leaves.1, first.leaves.0.max_nodes)))) c.try_move-in-Err.new.self _
    (c.try_move-in-Err.ensures.tried stage next at_mid (leads_here c.args.formula.now _ _ stage next c.args.step.now
    (sym (back.leaves.order ∙ first.leaves.0.order)) leads)) c.try_move-in-Err.ensures.settled
