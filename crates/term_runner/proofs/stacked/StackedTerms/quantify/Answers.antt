-- The last term without a variable takes its place.
use Rattle.std.proofs.Common.{◌≡◌, ◌∙◌, ◌<◌, ◌||◌, ℕ, zero, Bool, true, false, List, [], ◌∷◌, Contains, length, reverse}
use Rattle.std.proofs.Common.{Some, Ok, Err, refl, ap, sym, subst, arith, inl}
use Rattle.std.specs.Prelude.{Result}
use Rattle.cnf_base.specs.Formula.{Formula}
use Rattle.cnf_base.specs.Truth.{Assignment, with_value}
use Rattle.clause_terms.specs.Term.{IsTerm}
use Rattle.node_table.specs.declared.error.TableError.{TableError}
use Rattle.node_table.specs.declared.error.TableError.TheVariants.{OutOfMemory}
use Rattle.node_table.specs.Diagram.{variable_at}
use Rattle.node_table.specs.HandedOn.{handed_on}
use Rattle.node_table.specs.Value.{IsSubfunction, Levels}
use Rattle.quantify.specs.Quantification.{quantification_of}
use Rattle.schedule_plan.specs.Plan.{Stage, Term, after_move, some_value, term_holds}
use Rattle.bdd_terms.specs.declared.held.HeldTerm.{HeldTerm}
use Rattle.bdd_terms.specs.Caches.{all_entries}
use Rattle.bdd_terms.specs.Finds.{AreFew, Finds}
use Rattle.term_runner.specs.Held.{AreHeld}
use Rattle.term_runner.specs.Trail.{IsTrail}
use Rattle.term_runner.specs.Stacked.{IsAtStage, IsOpen}
use Rattle.term_runner.specs.Width.{HoldsAtMost}
use Rattle.bdd_terms.specs.Parts.{term_function}
use Rattle.term_runner.proofs.FewLeft.{result_part}
use Rattle.term_runner.proofs.Placed.{gives_up, not_found, not_kept, operand_of, put_done}
use Rattle.term_runner.proofs.Plans.{IsAfterExists}
use Rattle.term_runner.proofs.QuantifiedTerm.{quantified_function}
use Rattle.term_runner.proofs.Stacks.{none_left}
use Rattle.bdd_terms.proofs.StayingTerms.{term_kept}
use Rattle.term_runner.proofs.Trails.{trail_grown, trail_pushed}
use Rattle.schedule_plan.specs.declared.plan.Move.TheVariants.{Exists}
use Rattle.term_runner.proofs.Taking.{as_listed, exists_of, few_held, own_listed}
use Rattle.term_runner.proofs.stacked.StackedTerms.quantify.Given.{Over}
use Rattle.term_runner.proofs.stacked.StackedTerms.quantify.Goals as goal
use Rattle.term_runner.proofs.stacked.StackedTerms.quantify.Goals.{After-weaken}

pub unreachable-requires-in_default-level : goal.unreachable-requires-in_default-level
unreachable-requires-in_default-level g c =
    let begun = c.requires.1 in
    let move = exists_of c.requires.0 begun.stage begun.next (Exists c.args.variable)
    c.args.variable refl begun.leads in
    let place = begun.ready.over.sound.tied.ordered.each c.args.variable move.above
    (omega (arith, move.within, begun.ready.over.vars)) in
    c.in_default-level.ensures place.0 place.1 place.2

pub unreachable-requires : goal.unreachable-requires
unreachable-requires g c =
    let table = c.args.self.now.table in
    let begun = c.requires.1 in
    let move = exists_of c.requires.0 begun.stage begun.next (Exists c.args.variable)
    c.args.variable refl begun.leads in
    let few = subst (λ (s : List HeldTerm). length s < 1) c.as_slice.ensures.value c.in_default.ensures in
    none_left c.requires.0 table.graph table.book.state.live c.args.self.now.out.items (omega (arith, few)) move.top move.rest
    (subst (λ (terms : List Term). AreHeld c.requires.0 table.graph table.book.state.live (reverse c.args.self.now.out.items) terms)
    move.stacked begun.at.held)

pub weaken-requires-clause-operand : goal.weaken-requires-clause-operand
weaken-requires-clause-operand g c =
    let table = c.args.self.now.table in
    let begun = c.requires.1 in
    let u = c.in-Some.u in
    let move = exists_of c.requires.0 begun.stage begun.next (Exists c.args.variable)
    c.args.variable refl begun.leads in
    let list = u ∷ c.in-Some.ensures.0 in
    let items : reverse c.args.self.now.out.items ≡ list = ap reverse (sym c.as_slice.ensures.value)
    ∙ c.in-Some.ensures.1 in
    let are = as_listed c.requires.0 table _ list _ _ items move.stacked begun.at.held in
    operand_of c.requires.0 table (all_entries c.args.self.now.caches) u move.top list
    (own_listed table _ _ list items begun.own) (zero, omega arith, refl) are.0

-- what was found of the last term without the variable
module _ (g : Over) (c : After-weaken g) (formula : Formula) (ready : IsOpen formula c.args.self.now)
    (stage next : Stage) (at : IsAtStage formula c.args.self.now stage)
    (leads : after_move formula stage (Exists c.args.variable) ≡ Some next) where
  abbrev quantified : IsAfterExists formula stage next c.args.variable stage.stack
  quantified = exists_of formula stage next (Exists c.args.variable) c.args.variable
      refl leads

  items_one : reverse c.args.self.now.out.items ≡ c.in-Some.u ∷ c.in-Some.ensures.0
  items_one = ap reverse (sym c.as_slice.ensures.value) ∙ c.in-Some.ensures.1

  top : AreHeld formula c.args.self.now.table.graph c.args.self.now.table.book.state.live
      (c.in-Some.u ∷ c.in-Some.ensures.0) (quantified.top ∷ quantified.rest)
  top = as_listed formula c.args.self.now.table _ _ _ _ items_one quantified.stacked at.held

  few_one : (width : ℕ) → HoldsAtMost formula c.args.self.now.table.graph.order stage next width
      → AreFew c.args.self.now.table.graph (c.in-Some.u ∷ []) width
  few_one width most = (
    few_held formula c.args.self.now.table stage next c.in-Some.u quantified.top ready.over.sound top.0
        (inl (subst (λ (terms : List Term). Contains terms quantified.top) (sym quantified.stacked) (zero, omega arith, refl))) width most,
    tt,
  )

  result_one : next.stack ≡ some_value c.args.variable quantified.top ∷ quantified.rest
  result_one = ap (λ (s : Stage). s.stack) quantified.after

  found_one : (r : Result HeldTerm TableError)
      → ((holds : Assignment → Bool) (variable : ℕ) → variable_at c.args.self.now.table.graph c.in-Some-level.level ≡ variable
      → IsTerm c.args.self.now.table.graph c.args.self.now.table.book.state.live holds c.in-Some.u.node c.in-Some.u.unit
      → Finds (IsSubfunction (quantification_of c.args.self.now.table.graph c.in-Some.u.node c.in-Some-level.level))
      (quantification_of c.args.self.now.table.graph c.in-Some.u.node c.in-Some-level.level)
      (λ a. holds (with_value a variable true) || holds (with_value a variable false)) (c.in-Some.u ∷ [])
      c.args.self.now.table c.weaken.new.table c.args.self.now.caches c.weaken.new.caches r)
      → Finds (IsSubfunction (term_function formula c.args.self.now.table.graph.order
      (some_value c.args.variable quantified.top)))
      (term_function formula c.args.self.now.table.graph.order (some_value c.args.variable quantified.top))
      (λ a. term_holds formula a (some_value c.args.variable quantified.top)) (c.in-Some.u ∷ [])
      c.args.self.now.table c.weaken.new.table c.args.self.now.caches c.weaken.new.caches r
  found_one r finds =
      let old = c.args.self.now.table in
      let x = c.args.variable in
      let level = c.in-Some-level in
      subst (λ (function : Levels → Bool). Finds (IsSubfunction function) function
      (λ a. term_holds formula a (some_value x quantified.top))
      (c.in-Some.u ∷ []) old c.weaken.new.table c.args.self.now.caches c.weaken.new.caches r)
      (quantified_function old.graph ready.over.sound.tied.reduced ready.over.sound.tied.ordered level.level x
      level.ensures.0
      level.ensures.1 formula quantified.top c.in-Some.u.node top.0.is.stands top.0.is.value)
      (finds (λ a. term_holds formula a quantified.top) x level.ensures.1 top.0.is)

pub returns-in_err-held : goal.returns-in_err-held
returns-in_err-held g c formula stage next ready at leads =
    let inside = (goal.at.returns-in_err-held g c).After-weaken in
    let came = c.in_err-held.field-0.0 in
    let move = quantified g inside formula ready stage next at leads in
    not_found c.growth_law.ensures c.steps_law.ensures c.entry_law.ensures formula stage next c.args.self.now
    ready c.requires.1.own at (some_value c.args.variable move.top) move.rest (result_one g inside formula ready stage next at leads)
    (c.in-Some.u ∷ []) c.in-Some.ensures.0 (items_one g inside formula ready stage next at leads)
    (top g inside formula ready stage next at leads).1 (few_one g inside formula ready stage next at leads)
    (IsSubfunction (term_function formula c.args.self.now.table.graph.order (some_value c.args.variable move.top)))
    (result_part formula c.args.self.now.table.graph.order stage next (some_value c.args.variable move.top) move.rest
    (result_one g inside formula ready stage next at leads)) c.weaken.new.table c.weaken.new.caches came
    (found_one g inside formula ready stage next at leads (Err came) c.in_err-held.ensures.finds) _
    (handed_on _ came came c.from_residual.ensures.1 refl)

pub returns-in_err-push : goal.returns-in_err-push
returns-in_err-push g c formula stage next ready at leads =
    let inside = (goal.at.returns-in_err-push g c).After-weaken in
    let move = quantified g inside formula ready stage next at leads in
    not_kept c.growth_law.ensures c.steps_law.ensures c.entry_law.ensures formula stage next c.args.self.now
    ready c.requires.1.own at (some_value c.args.variable move.top) move.rest (result_one g inside formula ready stage next at leads)
    (c.in-Some.u ∷ []) c.in-Some.ensures.0 (items_one g inside formula ready stage next at leads)
    (top g inside formula ready stage next at leads).1 (few_one g inside formula ready stage next at leads)
    (IsSubfunction (term_function formula c.args.self.now.table.graph.order (some_value c.args.variable move.top)))
    (result_part formula c.args.self.now.table.graph.order stage next (some_value c.args.variable move.top) move.rest
    (result_one g inside formula ready stage next at leads)) c.weaken.new.table c.weaken.new.caches
    c.in_ok-held.held
    (found_one g inside formula ready stage next at leads (Ok c.in_ok-held.held) c.in_ok-held.ensures.finds) _
    (handed_on _ OutOfMemory OutOfMemory c.from_residual-in_err-push.ensures.1 refl) c.in_ok-held.ensures.some
    c.push.new.self c.in_err-push.ensures.err

pub put-requires-clause-sound : goal.put-requires-clause-sound
put-requires-clause-sound g c =
    let begun = c.requires.1 in
    let inside = (goal.at.put-requires-clause-sound g c).After-weaken in
    (found_one g inside c.requires.0 begun.ready begun.stage begun.next begun.at begun.leads (Ok c.in_ok-held.held)
    c.in_ok-held.ensures.finds).steps.leaves.sound

pub put-requires-clause-units : goal.put-requires-clause-units
put-requires-clause-units g c some =
    let begun = c.requires.1 in
    let inside = (goal.at.put-requires-clause-units g c).After-weaken in
    let move = quantified g inside c.requires.0 begun.ready begun.stage begun.next begun.at begun.leads in
    let items = items_one g inside c.requires.0 begun.ready begun.stage begun.next begun.at begun.leads in
    (gives_up c.growth_law.ensures c.steps_law.ensures c.entry_law.ensures c.requires.0 begun.stage begun.next c.args.self.now
    begun.ready begun.own begun.at (some_value c.args.variable move.top) move.rest
    (result_one g inside c.requires.0 begun.ready begun.stage begun.next begun.at begun.leads) (c.in-Some.u ∷ []) c.in-Some.ensures.0 items
    (top g inside c.requires.0 begun.ready begun.stage begun.next begun.at begun.leads).1 (few_one g inside c.requires.0 begun.ready begun.stage begun.next begun.at begun.leads)
    (IsSubfunction (term_function c.requires.0 c.args.self.now.table.graph.order (some_value c.args.variable move.top)))
    (result_part c.requires.0 c.args.self.now.table.graph.order begun.stage begun.next
    (some_value c.args.variable move.top) move.rest (result_one g inside c.requires.0 begun.ready begun.stage begun.next begun.at begun.leads))
    c.weaken.new.table c.weaken.new.caches c.in_ok-held.held
    (found_one g inside c.requires.0 begun.ready begun.stage begun.next begun.at begun.leads (Ok c.in_ok-held.held) c.in_ok-held.ensures.finds))

pub returns : goal.returns
returns g c formula stage next ready at leads =
    let old = c.args.self.now in
    let x = c.args.variable in
    let new = c.weaken.new.table in
    let inside = (goal.at.returns g c).After-weaken in
    let move = quantified g inside formula ready stage next at leads in
    let found = found_one g inside formula ready stage next at leads (Ok c.in_ok-held.held) c.in_ok-held.ensures.finds in
    let extends = found.steps.extends in
    let reduced = ready.over.sound.tied.reduced in
    let up = term_kept c.growth_law.ensures old.table.graph new.graph reduced extends.nodes old.table.book.state.live new.book.state.live
    extends.clauses (λ a. term_holds formula a move.top) c.in-Some.u.node c.in-Some.u.unit
    (top g inside formula ready stage next at leads).0.is in
    let kept = trail_pushed formula new.graph old.trail c.push.new.self x c.in-Some.u.node move.top stage.trail
    c.in_ok-push.ensures.ok up.stands up.value
    (trail_grown c.growth_law.ensures formula old.table.graph new.graph reduced extends.nodes old.trail stage.trail at.kept) in
    put_done c.growth_law.ensures c.steps_law.ensures c.entry_law.ensures formula stage next old ready c.requires.1.own at
    (some_value x move.top) move.rest (result_one g inside formula ready stage next at leads) (c.in-Some.u ∷ [])
    c.in-Some.ensures.0 (items_one g inside formula ready stage next at leads) (top g inside formula ready stage next at leads).1
    (few_one g inside formula ready stage next at leads) (IsSubfunction (term_function formula c.args.self.now.table.graph.order
    (some_value c.args.variable move.top)))
    (result_part formula c.args.self.now.table.graph.order stage next (some_value c.args.variable move.top) move.rest
    (result_one g inside formula ready stage next at leads)) new c.weaken.new.caches c.in_ok-held.held found (c.in-Some.u ∷ []) refl
    (λ last retires. retires)
    c.put.new.table (record old { out = c.put.new.out }) c.push.new.self
    (subst (λ (trail : List (ℕ × Term)). IsTrail formula new.graph c.push.new.self trail)
    (sym (ap (λ (s : Stage). s.trail) move.after)) kept)
    c.put.result c.put.ensures.refuted c.put.ensures.placed
