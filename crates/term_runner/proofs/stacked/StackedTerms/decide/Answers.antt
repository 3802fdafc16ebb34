-- What is left to show of `decide`.
use Rattle.std.proofs.Common.{◌≡◌, ◌<◌, ◌≤◌, ◌∙◌, ℕ, Bool, true, false, List, [], length, reverse, Option, Result, Err, refl, sym, ap, subst}
use Rattle.std.proofs.Common.{inl, inr}
use Rattle.std.specs.List.{list_all}
use Rattle.std.proofs.lemmas.Bool.{cases_lt}
use Rattle.cnf_base.specs.Formula.{Formula}
use Rattle.cnf_base.specs.Order.{IsOrder}
use Rattle.node_table.specs.declared.error.TableError.{TableError}
use Rattle.node_table.specs.declared.error.TableError.TheVariants.{OutOfMemory}
use Rattle.node_table.specs.declared.node.Node.{Node}
use Rattle.node_table.specs.declared.node.Node.TheVariants.{True}
use Rattle.node_table.specs.HandedOn.{handed_on}
use Rattle.node_table.specs.Progress.{Continues}
use Rattle.node_table.specs.Table.{live_nodes}
use Rattle.clause_terms.specs.Recovery.{IsRecoveredFrom}
use Rattle.reconstruction.specs.Stack.{Stack}
use Rattle.schedule_plan.specs.declared.plan.Move.{Move}
use Rattle.schedule_plan.specs.Plan.{IsAdmissible, no_stage}
use Rattle.schedule_plan.specs.SetMove.{SetMoves, in_order}
use Rattle.bdd_terms.specs.declared.held.HeldTerm.{HeldTerm}
use Rattle.bdd_terms.specs.Caches.{all_entries}
use Rattle.term_runner.specs.Clauses.{is_tautology}
use Rattle.term_runner.specs.Opened.{Decides}
use Rattle.term_runner.specs.Stacked.{IsAtStage}
use Rattle.bdd_terms.specs.Tidy.{LeavesReached}
use Rattle.term_runner.specs.Tidy.{held_nodes}
use Rattle.term_runner.proofs.Between.{at_first}
use Rattle.term_runner.proofs.Decided.{decides_kept, decides_line, decides_model, decides_moves, decides_no_line, decides_nothing}
use Rattle.term_runner.proofs.Decided.{decides_refuted, no_node_yet, none_left}
use Rattle.term_runner.proofs.AtStart.{some_moves}
use Rattle.term_runner.proofs.Plans.{all_hold}
use Rattle.term_runner.proofs.Tautologies.{tautologies_satisfied}
use Rattle.term_runner.proofs.Trails.{tautologies_recovered}
use Rattle.term_runner.proofs.stacked.StackedTerms.decide.Given.{Over}
use Rattle.term_runner.proofs.stacked.StackedTerms.decide.Goals as goal
use Rattle.term_runner.proofs.stacked.StackedTerms.decide.Goals.{After-table_law}

-- the plan is admissible in the order of the variables
in_its_order : SetMoves → (formula : Formula) (order : List ℕ) (moves : List Move) → IsOrder order → length order ≡ formula.vars
    → IsAdmissible formula moves → IsAdmissible formula (in_order order moves)
in_its_order law formula order moves ordered same plan =
    law.alike formula moves (in_order order moves) (law.ordered formula order moves ordered same plan) plan

-- at the call
module _ (g : Over) (c : After-table_law g) where
  continues : Continues c.args.self.now.table c.args.self.now.table
  continues = (c.steps_law.ensures.none c.args.self.now.table c.requires.over.sound).leaves

  none_yet : c.args.self.now.table.book.state.top ≡ c.args.self.now.table.inputs → live_nodes c.args.self.now.table.graph ≡ 0
  none_yet = no_node_yet c.marks_law.ensures.start c.marks_law.ensures.fewer c.start_law.ensures.clauses c.in_use_law.ensures
      c.args.formula.now c.args.self.now.table (all_entries c.args.self.now.caches) c.formula_law.ensures.literals c.requires.over

  ordered_plan : IsAdmissible c.args.formula.now (in_order c.args.self.now.table.graph.order c.args.plan.now)
  ordered_plan = in_its_order c.set_move_law.ensures c.args.formula.now c.args.self.now.table.graph.order c.args.plan.now
      c.table_law.ensures.ordered c.requires.over.vars c.requires.plan

  at_start : IsAtStage c.args.formula.now c.args.self.now no_stage
  at_start = at_first c.args.formula.now c.args.self.now.table.graph c.args.self.now.table.book.state.live c.args.self.now.out.items
      c.args.self.now.trail c.requires.none_out c.requires.no_trail (c.copies_law.ensures.none c.args.self.now.table.graph [])

pub returns-then-refuted-clause-decides : goal.returns-then-refuted-clause-decides
returns-then-refuted-clause-decides g c =
    let at = (goal.at.returns-then-refuted-clause-decides g c).After-table_law in
    decides_refuted c.lean_law.ensures.lean c.in_use_law.ensures c.args.formula.now c.args.plan.now c.args.capacity c.args.self.now.table
    (all_entries c.args.self.now.caches) c.requires.over (continues g at) (none_yet g at) (c.requires.refuted c.if-refuted.true)

pub returns-in_err-add_empty-clause-decides : goal.returns-in_err-add_empty-clause-decides
returns-in_err-add_empty-clause-decides g c =
    let at = (goal.at.returns-in_err-add_empty-clause-decides g c).After-table_law in
    let old = c.args.self.now.table in
    let new = c.add_empty.new.self.table in
    let came = c.in_err-add_empty.field-0.0 in
    let refused = c.in_err-add_empty.ensures in
    subst (λ (r : Result (Option (List Bool)) TableError). Decides c.args.formula.now c.args.plan.now c.args.capacity old new r)
    (sym (handed_on _ came came c.from_residual.ensures.1 refl))
    (decides_no_line c.lean_law.ensures.lean c.in_use_law.ensures c.args.formula.now c.args.plan.now c.args.capacity old
    (all_entries c.args.self.now.caches) c.requires.over (continues g at) (none_yet g at) new c.in-Some.number c.add_empty.ensures.nodes
    c.add_empty.ensures.adds c.in-Some.ensures.some (some_moves c.args.formula.now c.args.plan.now c.requires.plan c.in-Some.ensures.some)
    came refused.leaves (λ is. refused.no_node_limit (ap Err is)) (λ is. refused.id_limit (ap Err is)) refused.refused)

pub returns-in-Some-clause-decides : goal.returns-in-Some-clause-decides
returns-in-Some-clause-decides g c =
    let at = (goal.at.returns-in-Some-clause-decides g c).After-table_law in
    let old = c.args.self.now.table in
    let done = c.in_ok-add_empty.ensures in
    decides_line c.lean_law.ensures.lean c.in_use_law.ensures c.args.formula.now c.args.plan.now c.args.capacity old
    (all_entries c.args.self.now.caches) c.requires.over (continues g at) (none_yet g at) c.add_empty.new.self.table c.in-Some.number
    c.add_empty.ensures.nodes c.add_empty.ensures.adds c.in-Some.ensures.some
    (some_moves c.args.formula.now c.args.plan.now c.requires.plan c.in-Some.ensures.some) c.live_law.ensures done.leaves done.state done.told
    c.in-Some.ensures.first

pub returns-in_err-model-clause-decides : goal.returns-in_err-model-clause-decides
returns-in_err-model-clause-decides g c =
    let at = (goal.at.returns-in_err-model-clause-decides g c).After-table_law in
    let old = c.args.self.now.table in
    subst (λ (r : Result (Option (List Bool)) TableError). Decides c.args.formula.now c.args.plan.now c.args.capacity old old r)
    (sym (handed_on _ OutOfMemory OutOfMemory c.from_residual-in_err-model.ensures.1 refl))
    (decides_nothing c.lean_law.ensures.lean c.in_use_law.ensures c.args.formula.now c.args.plan.now c.args.capacity old
    (all_entries c.args.self.now.caches) c.requires.over (continues g at) (none_yet g at))

pub returns-then-are_tautologies-clause-decides : goal.returns-then-are_tautologies-clause-decides
returns-then-are_tautologies-clause-decides g c =
    let at = (goal.at.returns-then-are_tautologies-clause-decides g c).After-table_law in
    let formula = c.args.formula.now in
    let old = c.args.self.now.table in
    let all : list_all is_tautology formula.clauses ≡ true = sym c.are_tautologies.ensures ∙ c.if-are_tautologies.true in
    decides_model c.lean_law.ensures.lean c.in_use_law.ensures formula c.args.plan.now c.args.capacity old
    (all_entries c.args.self.now.caches) c.requires.over (continues g at) (none_yet g at) all c.in_ok-model.model
    (tautologies_recovered formula old.graph c.args.plan.now (ordered_plan g at) c.table_law.ensures.ordered
    c.formula_law.ensures.literals c.requires.over.vars
    (λ a. all_hold formula a (tautologies_satisfied a formula.vars formula.clauses c.formula_law.ensures.literals all))
    c.in_ok-model.model
    (subst (λ (trail : List (ℕ × Node)). IsRecoveredFrom old.graph True (reverse trail) c.in_ok-model.model) c.new.ensures
    c.in_ok-model.ensures.recovered))

pub give_back-requires-clause-ready : goal.give_back-requires-clause-ready
give_back-requires-clause-ready g c = record { over = c.requires.over; none_empty = c.in_default.ensures.none }

pub give_back-requires-clause-possible : goal.give_back-requires-clause-possible
give_back-requires-clause-possible g c = (no_stage, at_start g (goal.at.give_back-requires-clause-possible g c).After-table_law)

pub give_back-requires-clause-own : goal.give_back-requires-clause-own
give_back-requires-clause-own g c = c.requires.own c.if-refuted.false

pub returns-in_err-self-clause-decides : goal.returns-in_err-self-clause-decides
returns-in_err-self-clause-decides g c =
    let at = (goal.at.returns-in_err-self-clause-decides g c).After-table_law in
    let old = c.args.self.now.table in
    let came = c.in_err-self.field-0.0 in
    let back = c.in_err-self.ensures in
    subst (λ (r : Result (Option (List Bool)) TableError). Decides c.args.formula.now c.args.plan.now c.args.capacity old
    c.give_back.new.self.table r) (sym (handed_on _ came came c.from_residual-in_err-self.ensures.1 refl))
    (decides_kept c.lean_law.ensures.lean c.in_use_law.ensures c.args.formula.now c.args.plan.now c.args.capacity old
    (all_entries c.args.self.now.caches) c.requires.over (continues g at) (none_yet g at) c.give_back.new.self.table back.kept
    c.give_back.ensures.top came back.error back.leaves (sym c.are_tautologies.ensures ∙ c.if-are_tautologies.false))

-- no term is out, and nothing was quantified
roots_none : (out : List HeldTerm) (old new : Stack) (live : ℕ) → out ≡ [] → old.recent ≡ [] → (1000 ≤ live → new.recent ≡ [])
    → (live < 1000 → new.recent ≡ old.recent) → held_nodes out new.recent ≡ []
roots_none out old new live none bare alone few = elim (cases_lt live 1000) [
  | inl less ↦ (λ k. held_nodes (none k) ((few less ∙ bare) k))
  | inr more ↦ (λ k. held_nodes (none k) (alone more k))
]

pub take_moves-requires-clause-plan : goal.take_moves-requires-clause-plan
take_moves-requires-clause-plan g c =
    subst (λ (order : List ℕ). IsAdmissible c.args.formula.now (in_order order c.args.plan.now)) (sym c.in_ok-self.ensures.leaves.order)
    (ordered_plan g (goal.at.take_moves-requires-clause-plan g c).After-table_law)

pub take_moves-requires-clause-size : goal.take_moves-requires-clause-size
take_moves-requires-clause-size g c = c.give_back.ensures.sizes ∙ c.requires.size

pub take_moves-requires-clause-at : goal.take_moves-requires-clause-at
take_moves-requires-clause-at g c = c.in_ok-self.ensures.at no_stage (at_start g (goal.at.take_moves-requires-clause-at g c).After-table_law)

pub take_moves-requires-clause-empty : goal.take_moves-requires-clause-empty
take_moves-requires-clause-empty g c =
    let old = c.args.self.now in
    let new = c.give_back.new.self in
    let back = c.in_ok-self.ensures in
    none_left old.table.graph new.table.graph
    (subst (LeavesReached old.table.graph new.table.graph)
    (roots_none new.out.items old.trail new.trail (live_nodes old.table.graph)
    ((λ k. (c.give_back.ensures.same.0 k).items) ∙ c.requires.none_out)
    (ap (λ (trail : Stack). trail.recent) c.requires.no_trail) back.alone back.few) back.reached)

pub take_moves-requires-clause-none_left : goal.take_moves-requires-clause-none_left
take_moves-requires-clause-none_left g c =
    let old = c.args.self.now in
    let new = c.give_back.new.self in
    let back = c.in_ok-self.ensures in
    back.count ∙ none_left old.table.graph new.table.graph
    (subst (LeavesReached old.table.graph new.table.graph)
    (roots_none new.out.items old.trail new.trail (live_nodes old.table.graph)
    ((λ k. (c.give_back.ensures.same.0 k).items) ∙ c.requires.none_out)
    (ap (λ (trail : Stack). trail.recent) c.requires.no_trail) back.alone back.few) back.reached)

pub returns-clause-decides : goal.returns-clause-decides
returns-clause-decides g c =
    let at = (goal.at.returns-clause-decides g c).After-table_law in
    let old = c.args.self.now.table in
    let moved = c.take_moves.ensures in
    decides_moves c.lean_law.ensures.lean c.in_use_law.ensures c.args.formula.now c.args.plan.now c.args.capacity old
    (all_entries c.args.self.now.caches) c.requires.over (continues g at) (none_yet g at) c.steps_law.ensures c.give_back.new.self.table
    c.take_moves.new.self.table c.in_ok-self.ensures.leaves c.give_back.ensures.top
    (sym c.are_tautologies.ensures ∙ c.if-are_tautologies.false) c.in_default.ensures.none c.take_moves.result moved.found moved.leaves moved.paid
    moved.lean moved.short moved.no_empty

-- it wasn't refuted before
not_both : (b : Bool) → b ≡ true → b ≡ false → ⊥
not_both b is other = let e : true ≡ false = sym is ∙ other in cc

pub returns-in_err-add_empty-clause-at_once : goal.returns-in_err-add_empty-clause-at_once
returns-in_err-add_empty-clause-at_once g c is = absurd (not_both c.args.refuted is c.if-refuted.false)

pub returns-in-Some-clause-at_once : goal.returns-in-Some-clause-at_once
returns-in-Some-clause-at_once g c is = absurd (not_both c.args.refuted is c.if-refuted.false)

pub returns-in_err-model-clause-at_once : goal.returns-in_err-model-clause-at_once
returns-in_err-model-clause-at_once g c is = absurd (not_both c.args.refuted is c.if-refuted.false)

pub returns-then-are_tautologies-clause-at_once : goal.returns-then-are_tautologies-clause-at_once
returns-then-are_tautologies-clause-at_once g c is = absurd (not_both c.args.refuted is c.if-refuted.false)

pub returns-in_err-self-clause-at_once : goal.returns-in_err-self-clause-at_once
returns-in_err-self-clause-at_once g c is = absurd (not_both c.args.refuted is c.if-refuted.false)

pub returns-clause-at_once : goal.returns-clause-at_once
returns-clause-at_once g c is = absurd (not_both c.args.refuted is c.if-refuted.false)
