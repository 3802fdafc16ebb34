-- A set of variables finds a term, which takes the last one's place.
use Rattle.std.proofs.Common.{◌≡◌, ◌∙◌, ◌<◌, List, ◌∷◌, Ok, Err, length, reverse, refl, ap, sym, subst, arith}
use Rattle.node_table.specs.declared.error.TableError.TheVariants.{OutOfMemory}
use Rattle.node_table.specs.HandedOn.{handed_on}
use Rattle.schedule_plan.specs.Plan.{Term}
use Rattle.bdd_terms.specs.declared.held.HeldTerm.{HeldTerm}
use Rattle.term_runner.specs.Held.{AreHeld}
use Rattle.term_runner.proofs.QuantifiedSet.{found_set, set_done, set_gives_up, set_not_kept, set_operand, set_refused, stacked_at}
use Rattle.term_runner.proofs.Stacks.{none_left}
use Rattle.term_runner.proofs.stacked.StackedTerms.quantify_levels.Goals as goal

items_here : (items slice : List HeldTerm) (u : HeldTerm) (rest : List HeldTerm) → slice ≡ items → reverse slice ≡ u ∷ rest
    → reverse items ≡ u ∷ rest
items_here items slice u rest same is = ap reverse (sym same) ∙ is

pub unreachable-requires : goal.unreachable-requires
unreachable-requires g c =
    let table = c.args.self.now.table in
    let formula = c.requires.may.0 in
    let begun = c.requires.may.2 in
    let here = stacked_at formula table.graph begun.stage begun.next c.requires.may.1 c.args.levels.now c.requires.may.3 c.requires.some
    begun.leads in
    let few = subst (λ (s : List HeldTerm). length s < 1) c.as_slice.ensures.value c.in_default.ensures in
    none_left formula table.graph table.book.state.live c.args.self.now.out.items (omega (arith, few)) here.top here.rest
    (subst (λ (terms : List Term). AreHeld formula table.graph table.book.state.live (reverse c.args.self.now.out.items) terms)
    here.stacked begun.at.held)

pub weaken_all-requires-clause-sound : goal.weaken_all-requires-clause-sound
weaken_all-requires-clause-sound g c = c.requires.may.2.ready.over.sound

pub weaken_all-requires-clause-fits : goal.weaken_all-requires-clause-fits
weaken_all-requires-clause-fits g c = c.requires.may.2.ready.over.fits

pub weaken_all-requires-clause-levels : goal.weaken_all-requires-clause-levels
weaken_all-requires-clause-levels g c = c.requires.may.3.rising

pub weaken_all-requires-clause-operand : goal.weaken_all-requires-clause-operand
weaken_all-requires-clause-operand g c =
    let begun = c.requires.may.2 in
    set_operand c.growth_law.ensures c.steps_law.ensures c.entry_law.ensures c.requires.may.0 begun.stage begun.next c.args.self.now
    begun.ready begun.own begun.at c.requires.may.1 c.args.levels.now c.requires.may.3 c.requires.some begun.leads c.in-Some.u
    c.in-Some.ensures.0 (items_here c.args.self.now.out.items _ c.in-Some.u c.in-Some.ensures.0 c.as_slice.ensures.value c.in-Some.ensures.1)

pub returns-in_err-held : goal.returns-in_err-held
returns-in_err-held g c formula stage next set are ready at leads =
    let came = c.in_err-held.field-0.0 in
    set_refused c.growth_law.ensures c.steps_law.ensures c.entry_law.ensures formula stage next c.args.self.now ready
    c.requires.may.2.own at set c.args.levels.now are c.requires.some leads c.in-Some.u c.in-Some.ensures.0
    (items_here c.args.self.now.out.items _ c.in-Some.u c.in-Some.ensures.0 c.as_slice.ensures.value c.in-Some.ensures.1)
    c.weaken_all.new.table c.weaken_all.new.caches (Err came) c.in_err-held.ensures.finds came refl _
    (handed_on _ came came c.from_residual.ensures.1 refl)

pub push_set-requires : goal.push_set-requires
push_set-requires g c = c.requires.few

pub returns-in_err-push_set : goal.returns-in_err-push_set
returns-in_err-push_set g c formula stage next set are ready at leads =
    set_not_kept c.growth_law.ensures c.steps_law.ensures c.entry_law.ensures formula stage next c.args.self.now ready
    c.requires.may.2.own at set c.args.levels.now are c.requires.some leads c.in-Some.u c.in-Some.ensures.0
    (items_here c.args.self.now.out.items _ c.in-Some.u c.in-Some.ensures.0 c.as_slice.ensures.value c.in-Some.ensures.1)
    c.weaken_all.new.table c.weaken_all.new.caches (Ok c.in_ok-held.held) c.in_ok-held.ensures.finds c.in_ok-held.held refl _
    (handed_on _ OutOfMemory OutOfMemory c.from_residual-in_err-push_set.ensures.1 refl) c.in_ok-held.ensures.some
    c.push_set.new.self c.in_err-push_set.ensures.err

pub put-requires-clause-sound : goal.put-requires-clause-sound
put-requires-clause-sound g c =
    let begun = c.requires.may.2 in
    (found_set c.growth_law.ensures c.steps_law.ensures c.entry_law.ensures c.requires.may.0 begun.stage begun.next c.args.self.now
    begun.ready begun.own begun.at c.requires.may.1 c.args.levels.now c.requires.may.3 c.requires.some begun.leads c.in-Some.u
    c.in-Some.ensures.0
    (items_here c.args.self.now.out.items _ c.in-Some.u c.in-Some.ensures.0 c.as_slice.ensures.value c.in-Some.ensures.1)
    c.weaken_all.new.table c.weaken_all.new.caches (Ok c.in_ok-held.held) c.in_ok-held.ensures.finds).steps.leaves.sound

pub put-requires-clause-units : goal.put-requires-clause-units
put-requires-clause-units g c some =
    let begun = c.requires.may.2 in
    set_gives_up c.growth_law.ensures c.steps_law.ensures c.entry_law.ensures c.requires.may.0 begun.stage begun.next c.args.self.now
    begun.ready begun.own begun.at c.requires.may.1 c.args.levels.now c.requires.may.3 c.requires.some begun.leads c.in-Some.u
    c.in-Some.ensures.0
    (items_here c.args.self.now.out.items _ c.in-Some.u c.in-Some.ensures.0 c.as_slice.ensures.value c.in-Some.ensures.1)
    c.weaken_all.new.table c.weaken_all.new.caches (Ok c.in_ok-held.held) c.in_ok-held.ensures.finds c.in_ok-held.held refl

pub returns : goal.returns
returns g c formula stage next set are ready at leads =
    let old = c.args.self.now in
    set_done c.growth_law.ensures c.steps_law.ensures c.entry_law.ensures formula stage next old ready c.requires.may.2.own at
    set c.args.levels.now are c.requires.some leads c.in-Some.u c.in-Some.ensures.0
    (items_here old.out.items _ c.in-Some.u c.in-Some.ensures.0 c.as_slice.ensures.value c.in-Some.ensures.1)
    c.weaken_all.new.table c.weaken_all.new.caches (Ok c.in_ok-held.held) c.in_ok-held.ensures.finds c.in_ok-held.held refl
    c.args.variables.now c.requires.falls
    c.put.new.table (record old { out = c.put.new.out }) c.push_set.new.self c.in_ok-push_set.ensures.ok c.put.result c.put.ensures.refuted
    c.put.ensures.placed
