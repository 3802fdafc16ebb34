-- The conjunction of the two last terms takes their place.
use Rattle.std.proofs.Common.{◌≡◌, ◌∙◌, ◌<◌, ◌&&◌, ℕ, zero, Bool, List, [], ◌∷◌, Contains, length, reverse}
use Rattle.std.proofs.Common.{Some, Ok, Err, refl, ap, sym, subst, arith, inl}
use Rattle.std.specs.Prelude.{Result}
use Rattle.cnf_base.specs.Formula.{Formula}
use Rattle.cnf_base.specs.Truth.{Assignment}
use Rattle.clause_terms.specs.Term.{IsTerm}
use Rattle.node_table.specs.declared.error.TableError.{TableError}
use Rattle.node_table.specs.HandedOn.{handed_on}
use Rattle.node_table.specs.Value.{IsSubfunction, Levels}
use Rattle.apply_and.specs.Conjunction.{conjunction_of}
use Rattle.schedule_plan.specs.Plan.{Stage, Term, after_move, both, term_holds}
use Rattle.bdd_terms.specs.declared.held.HeldTerm.{HeldTerm}
use Rattle.bdd_terms.specs.Caches.{all_entries}
use Rattle.bdd_terms.specs.Finds.{AreFew, Finds}
use Rattle.term_runner.specs.Held.{AreHeld}
use Rattle.term_runner.specs.Trail.{IsTrail}
use Rattle.term_runner.specs.Stacked.{IsAtStage, IsOpen}
use Rattle.term_runner.specs.Width.{HoldsAtMost}
use Rattle.bdd_terms.specs.Parts.{term_function}
use Rattle.term_runner.proofs.FewLeft.{in_front, result_part}
use Rattle.term_runner.proofs.Placed.{gives_up, gives_up_swapped, not_found, operand_of, put_done, retires_swapped}
use Rattle.term_runner.proofs.Planned.{both_function}
use Rattle.term_runner.proofs.Stacks.{few_left}
use Rattle.term_runner.proofs.Taking.{IsConjoined, and_of, as_listed, few_held, own_listed}
use Rattle.term_runner.proofs.Trails.{trail_grown}
use Rattle.schedule_plan.specs.declared.plan.Move.TheVariants.{And}
use Rattle.term_runner.proofs.stacked.StackedTerms.conjoin.Given.{Over}
use Rattle.term_runner.proofs.stacked.StackedTerms.conjoin.Goals as goal
use Rattle.term_runner.proofs.stacked.StackedTerms.conjoin.Goals.{After-conjunction}

pub unreachable-requires : goal.unreachable-requires
unreachable-requires g c =
    let move = and_of c.requires.0 c.requires.1.stage c.requires.1.next And refl
    c.requires.1.leads in
    let old = c.args.self.now.table in
    few_left c.requires.0 old.graph old.book.state.live c.args.self.now.out.items
    (subst (λ (s : List HeldTerm). length s < 2) c.as_slice.ensures.value c.in_default.ensures) move.one move.other move.rest
    (subst (λ (terms : List Term). AreHeld c.requires.0 old.graph old.book.state.live (reverse c.args.self.now.out.items) terms)
    move.before c.requires.1.at.held)

pub conjunction-requires-clause-first : goal.conjunction-requires-clause-first
conjunction-requires-clause-first g c =
    let table = c.args.self.now.table in
    let begun = c.requires.1 in
    let move = and_of c.requires.0 begun.stage begun.next And refl begun.leads in
    let list = c.in-Some.v ∷ c.in-Some.u ∷ c.in-Some.ensures.0 in
    let items : reverse c.args.self.now.out.items ≡ list = ap reverse (sym c.as_slice.ensures.value) ∙ c.in-Some.ensures.1 in
    let are = as_listed c.requires.0 table _ list _ _ items move.before begun.at.held in
    record { stands = are.1.0.is.stands; unit = are.1.0.is.proved }

pub conjunction-requires-clause-second : goal.conjunction-requires-clause-second
conjunction-requires-clause-second g c =
    let table = c.args.self.now.table in
    let begun = c.requires.1 in
    let move = and_of c.requires.0 begun.stage begun.next And refl begun.leads in
    let list = c.in-Some.v ∷ c.in-Some.u ∷ c.in-Some.ensures.0 in
    let items : reverse c.args.self.now.out.items ≡ list = ap reverse (sym c.as_slice.ensures.value) ∙ c.in-Some.ensures.1 in
    let are = as_listed c.requires.0 table _ list _ _ items move.before begun.at.held in
    record { stands = are.0.is.stands; unit = are.0.is.proved }

pub conjunction-requires-clause-shared : goal.conjunction-requires-clause-shared
conjunction-requires-clause-shared g c not_fresh =
    let table = c.args.self.now.table in
    let begun = c.requires.1 in
    let move = and_of c.requires.0 begun.stage begun.next And refl begun.leads in
    let list = c.in-Some.v ∷ c.in-Some.u ∷ c.in-Some.ensures.0 in
    let items : reverse c.args.self.now.out.items ≡ list = ap reverse (sym c.as_slice.ensures.value) ∙ c.in-Some.ensures.1 in
    let are = as_listed c.requires.0 table _ list _ _ items move.before begun.at.held in
    let kept = all_entries c.args.self.now.caches in
    let own = own_listed table _ _ list items begun.own in (
      operand_of c.requires.0 table kept c.in-Some.u move.one list own (1, omega arith, refl) are.1.0,
      operand_of c.requires.0 table kept c.in-Some.v move.other list own (zero, omega arith, refl) are.0,
    )

-- the conjunction that was found, of the two last terms
module _ (g : Over) (c : After-conjunction g) (formula : Formula) (ready : IsOpen formula c.args.self.now)
    (stage next : Stage) (at : IsAtStage formula c.args.self.now stage)
    (leads : after_move formula stage And ≡ Some next) where
  abbrev conjoined : IsConjoined stage next
  conjoined = and_of formula stage next And refl leads

  items_two : reverse c.args.self.now.out.items ≡ c.in-Some.v ∷ c.in-Some.u ∷ c.in-Some.ensures.0
  items_two = ap reverse (sym c.as_slice.ensures.value) ∙ c.in-Some.ensures.1

  two : AreHeld formula c.args.self.now.table.graph c.args.self.now.table.book.state.live
      (c.in-Some.v ∷ c.in-Some.u ∷ c.in-Some.ensures.0) (conjoined.other ∷ conjoined.one ∷ conjoined.rest)
  two = as_listed formula c.args.self.now.table _ _ _ _ items_two conjoined.before at.held

  few_two : (width : ℕ) → HoldsAtMost formula c.args.self.now.table.graph.order stage next width
      → AreFew c.args.self.now.table.graph (c.in-Some.v ∷ c.in-Some.u ∷ []) width
  few_two width most = (
    few_held formula c.args.self.now.table stage next c.in-Some.v conjoined.other ready.over.sound two.0
        (inl (subst (λ (terms : List Term). Contains terms conjoined.other) (sym conjoined.before) (zero, omega arith, refl))) width most,
    (
      few_held formula c.args.self.now.table stage next c.in-Some.u conjoined.one ready.over.sound two.1.0
          (inl (subst (λ (terms : List Term). Contains terms conjoined.one) (sym conjoined.before)
          (in_front conjoined.other conjoined.one conjoined.rest))) width most,
      tt,
    ),
  )

  found_two : (r : Result HeldTerm TableError)
      → ((one other : Assignment → Bool) → IsTerm c.args.self.now.table.graph c.args.self.now.table.book.state.live one c.in-Some.u.node
      c.in-Some.u.unit
      → IsTerm c.args.self.now.table.graph c.args.self.now.table.book.state.live other c.in-Some.v.node c.in-Some.v.unit
      → Finds (IsSubfunction (conjunction_of c.args.self.now.table.graph c.in-Some.u.node c.in-Some.v.node))
      (conjunction_of c.args.self.now.table.graph c.in-Some.u.node c.in-Some.v.node) (λ a. one a && other a)
      (c.in-Some.v ∷ c.in-Some.u ∷ []) c.args.self.now.table c.conjunction.new.table c.args.self.now.caches c.conjunction.new.caches r)
      → Finds (IsSubfunction (term_function formula c.args.self.now.table.graph.order (both conjoined.one conjoined.other)))
      (term_function formula c.args.self.now.table.graph.order (both conjoined.one conjoined.other))
      (λ a. term_holds formula a (both conjoined.one conjoined.other)) (c.in-Some.v ∷ c.in-Some.u ∷ []) c.args.self.now.table
      c.conjunction.new.table c.args.self.now.caches c.conjunction.new.caches r
  found_two r finds =
      let old = c.args.self.now.table in
      subst (λ (function : Levels → Bool). Finds (IsSubfunction function) function
      (λ a. term_holds formula a (both conjoined.one conjoined.other))
      (c.in-Some.v ∷ c.in-Some.u ∷ []) old c.conjunction.new.table c.args.self.now.caches c.conjunction.new.caches r)
      (both_function old.graph ready.over.sound.tied.reduced ready.over.sound.tied.ordered formula
      old.book.state.live
      c.in-Some.u.node c.in-Some.v.node c.in-Some.u.unit c.in-Some.v.unit conjoined.one conjoined.other two.1.0.is two.0.is)
      (finds (λ a. term_holds formula a conjoined.one) (λ a. term_holds formula a conjoined.other) two.1.0.is
      two.0.is)

pub returns-in_err-held : goal.returns-in_err-held
returns-in_err-held g c formula stage next ready at leads =
    let inside = (goal.at.returns-in_err-held g c).After-conjunction in
    let came = c.in_err-held.field-0.0 in
    let move = conjoined g inside formula ready stage next at leads in
    not_found c.growth_law.ensures c.steps_law.ensures c.entry_law.ensures formula stage next c.args.self.now
    ready c.requires.1.own at (both move.one move.other) move.rest move.after (c.in-Some.v ∷ c.in-Some.u ∷ [])
    c.in-Some.ensures.0 (items_two g inside formula ready stage next at leads) (two g inside formula ready stage next at leads).1.1
    (few_two g inside formula ready stage next at leads) (IsSubfunction (term_function formula c.args.self.now.table.graph.order
    (both move.one move.other)))
    (result_part formula c.args.self.now.table.graph.order stage next (both move.one move.other) move.rest move.after)
    c.conjunction.new.table c.conjunction.new.caches came
    (found_two g inside formula ready stage next at leads (Err came) c.in_err-held.ensures.finds) _
    (handed_on _ came came c.from_residual.ensures.1 refl)

pub put-requires-clause-sound : goal.put-requires-clause-sound
put-requires-clause-sound g c =
    let begun = c.requires.1 in
    let inside = (goal.at.put-requires-clause-sound g c).After-conjunction in
    (found_two g inside c.requires.0 begun.ready begun.stage begun.next begun.at begun.leads (Ok c.in_ok-held.held)
    c.in_ok-held.ensures.finds).steps.leaves.sound

pub put-requires-clause-units : goal.put-requires-clause-units
put-requires-clause-units g c some =
    let begun = c.requires.1 in
    let inside = (goal.at.put-requires-clause-units g c).After-conjunction in
    let move = conjoined g inside c.requires.0 begun.ready begun.stage begun.next begun.at begun.leads in
    let items = items_two g inside c.requires.0 begun.ready begun.stage begun.next begun.at begun.leads in
    gives_up_swapped c.conjunction.new.table c.in-Some.u c.in-Some.v
    (gives_up c.growth_law.ensures c.steps_law.ensures c.entry_law.ensures c.requires.0 begun.stage begun.next c.args.self.now
    begun.ready begun.own begun.at (both move.one move.other) move.rest move.after (c.in-Some.v ∷ c.in-Some.u ∷ []) c.in-Some.ensures.0
    items
    (two g inside c.requires.0 begun.ready begun.stage begun.next begun.at begun.leads).1.1 (few_two g inside c.requires.0 begun.ready begun.stage begun.next begun.at begun.leads)
    (IsSubfunction (term_function c.requires.0 c.args.self.now.table.graph.order (both move.one move.other)))
    (result_part c.requires.0 c.args.self.now.table.graph.order begun.stage begun.next (both move.one move.other) move.rest
    move.after)
    c.conjunction.new.table c.conjunction.new.caches c.in_ok-held.held
    (found_two g inside c.requires.0 begun.ready begun.stage begun.next begun.at begun.leads (Ok c.in_ok-held.held) c.in_ok-held.ensures.finds))

pub returns : goal.returns
returns g c formula stage next ready at leads =
    let old = c.args.self.now in
    let inside = (goal.at.returns g c).After-conjunction in
    let move = conjoined g inside formula ready stage next at leads in
    let found = found_two g inside formula ready stage next at leads (Ok c.in_ok-held.held) c.in_ok-held.ensures.finds in
    let kept = trail_grown c.growth_law.ensures formula old.table.graph c.conjunction.new.table.graph
    ready.over.sound.tied.reduced
    found.steps.extends.nodes old.trail stage.trail at.kept in
    put_done c.growth_law.ensures c.steps_law.ensures c.entry_law.ensures formula stage next old ready c.requires.1.own at
    (both move.one move.other) move.rest move.after (c.in-Some.v ∷ c.in-Some.u ∷ []) c.in-Some.ensures.0
    (items_two g inside formula ready stage next at leads) (two g inside formula ready stage next at leads).1.1 (few_two g inside formula ready stage next at leads)
    (IsSubfunction (term_function formula c.args.self.now.table.graph.order (both move.one move.other)))
    (result_part formula c.args.self.now.table.graph.order stage next (both move.one move.other) move.rest move.after)
    c.conjunction.new.table c.conjunction.new.caches c.in_ok-held.held found
    (c.in-Some.u ∷ c.in-Some.v ∷ []) refl (λ last. retires_swapped c.conjunction.new.table last c.in-Some.u c.in-Some.v
    c.in_ok-held.held.unit) c.put.new.table
    (record old { out = c.put.new.out }) old.trail
    (subst (λ (trail : List (ℕ × Term)). IsTrail formula c.conjunction.new.table.graph old.trail trail) (sym move.trail) kept)
    c.put.result c.put.ensures.refuted c.put.ensures.placed
