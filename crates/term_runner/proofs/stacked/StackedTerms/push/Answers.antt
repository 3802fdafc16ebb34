-- The term of a clause is found, and comes behind the others.
use Rattle.std.proofs.Common.{◌≡◌, ℕ, List, [], reverse}
use Rattle.std.proofs.Common.{Some, refl, sym, subst}
use Rattle.node_table.specs.HandedOn.{handed_on}
use Rattle.node_table.specs.Value.{IsSubfunction}
use Rattle.schedule_plan.specs.Plan.{Stage, Term, after_move, input}
use Rattle.bdd_terms.specs.declared.held.HeldTerm.{HeldTerm}
use Rattle.bdd_terms.specs.Caches.{all_entries}
use Rattle.bdd_terms.specs.Units.{HasUnits}
use Rattle.term_runner.specs.Held.{IsAt}
use Rattle.term_runner.specs.Trail.{IsTrail}
use Rattle.term_runner.specs.Stacked.{HasOwnUnits, IsAtStage}
use Rattle.bdd_terms.specs.Parts.{term_function}
use Rattle.term_runner.proofs.FewLeft.{result_part}
use Rattle.term_runner.proofs.Placed.{not_found, put_done, with_room}
use Rattle.term_runner.proofs.Taking.{IsPushed, push_of}
use Rattle.term_runner.proofs.Trails.{trail_grown}
use Rattle.schedule_plan.specs.declared.plan.Move.TheVariants.{Push}
use Rattle.term_runner.proofs.stacked.StackedTerms.push.Given.{Over}
use Rattle.term_runner.proofs.stacked.StackedTerms.push.Goals as goal
use Rattle.term_runner.proofs.stacked.StackedTerms.push.Goals.{After-input}

pub input-requires-clause-over : goal.input-requires-clause-over
input-requires-clause-over g c = (all_entries c.args.self.now.caches, c.requires.ready.over)

pub input-requires-clause-from_one : goal.input-requires-clause-from_one
input-requires-clause-from_one g c = (push_of c.args.formula.now c.requires.stage c.requires.next
    (Push c.args.number) c.args.number refl c.requires.leads).from_one

pub input-requires-clause-to_len : goal.input-requires-clause-to_len
input-requires-clause-to_len g c = (push_of c.args.formula.now c.requires.stage c.requires.next
    (Push c.args.number) c.args.number refl c.requires.leads).to_len

module _ (g : Over) (c : After-input g) (stage next : Stage) (at : IsAtStage c.args.formula.now c.args.self.now stage)
    (leads : after_move c.args.formula.now stage (Push c.args.number) ≡ Some next) where
  abbrev pushed : IsPushed c.args.formula.now stage next c.args.number
  pushed = push_of c.args.formula.now stage next (Push c.args.number) c.args.number refl leads

  roomy : HasOwnUnits (record c.args.self.now { out = c.reserve.new.self })
  roomy = subst (λ (s : List HeldTerm). HasUnits c.args.self.now.table (all_entries c.args.self.now.caches) (reverse s))
      (sym c.reserve.ensures.items) c.requires.own

  roomy_at : IsAtStage c.args.formula.now (record c.args.self.now { out = c.reserve.new.self }) stage
  roomy_at = subst (λ (s : List HeldTerm). IsAt c.args.formula.now c.args.self.now.table.graph c.args.self.now.table.book.state.live s
      c.args.self.now.trail stage) (sym c.reserve.ensures.items) at

pub returns-in_err-held : goal.returns-in_err-held
returns-in_err-held g c stage next at leads =
    let formula = c.args.formula.now in
    let old = c.args.self.now in
    let inside = (goal.at.returns-in_err-held g c).After-input in
    let came = c.in_err-held.field-0.0 in
    let move = pushed g inside stage next at leads in
    with_room formula stage next old (record old { out = c.reserve.new.self }) _ _ c.reserve.ensures.items
    (not_found c.growth_law.ensures c.steps_law.ensures c.entry_law.ensures formula stage next (record old { out = c.reserve.new.self })
    c.requires.ready (roomy g inside stage next at leads) (roomy_at g inside stage next at leads) (input c.args.number) stage.stack
    move.stack [] (reverse c.reserve.new.self.items) refl (roomy_at g inside stage next at leads).held (λ width most. tt)
    (IsSubfunction (term_function c.args.formula.now c.args.self.now.table.graph.order (input c.args.number)))
    (result_part c.args.formula.now c.args.self.now.table.graph.order stage next (input c.args.number) stage.stack move.stack)
    c.input.new.table old.caches came (c.in_err-held.ensures.finds old.caches c.requires.ready.over.fits) _
    (handed_on _ came came c.from_residual.ensures.1 refl))

pub returns : goal.returns
returns g c stage next at leads =
    let formula = c.args.formula.now in
    let old = c.args.self.now in
    let roomy_old = record old { out = c.reserve.new.self } in
    let inside = (goal.at.returns g c).After-input in
    let move = pushed g inside stage next at leads in
    let found = c.in_ok-held.ensures.finds old.caches c.requires.ready.over.fits in
    let kept = trail_grown c.growth_law.ensures formula old.table.graph c.input.new.table.graph c.requires.ready.over.sound.tied.reduced
    found.steps.extends.nodes old.trail stage.trail at.kept in
    with_room formula stage next old roomy_old _ _ c.reserve.ensures.items
    (put_done c.growth_law.ensures c.steps_law.ensures c.entry_law.ensures formula stage next roomy_old
    c.requires.ready (roomy g inside stage next at leads) (roomy_at g inside stage next at leads) (input c.args.number) stage.stack
    move.stack [] (reverse c.reserve.new.self.items) refl (roomy_at g inside stage next at leads).held (λ width most. tt)
    (IsSubfunction (term_function c.args.formula.now c.args.self.now.table.graph.order (input c.args.number)))
    (result_part c.args.formula.now c.args.self.now.table.graph.order stage next (input c.args.number) stage.stack move.stack)
    c.input.new.table old.caches c.in_ok-held.held found [] refl (λ last retires. retires) c.put.new.table
    (record old { out = c.put.new.out }) old.trail
    (subst (λ (trail : List (ℕ × Term)). IsTrail formula c.input.new.table.graph old.trail trail) (sym move.trail) kept)
    c.put.result c.put.ensures.refuted c.put.ensures.placed)
