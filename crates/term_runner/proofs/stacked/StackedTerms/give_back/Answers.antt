-- What is left to show of `give_back`.
use Rattle.std.proofs.Common.{◌≡◌, ◌∙◌, ℕ, List, Contains, reverse, sym, ap, subst}
use Rattle.cnf_base.specs.Formula.{Formula}
use Rattle.lrat_rules.specs.State.{Live}
use Rattle.node_table.specs.declared.node.Node.{Node}
use Rattle.node_table.specs.Diagram.{Graph}
use Rattle.reclaim.specs.Reclaimed.{MayReclaim, Reclaims}
use Rattle.reconstruction.specs.Stack.{Stack}
use Rattle.schedule_plan.specs.Plan.{Stage, Term}
use Rattle.bdd_terms.specs.declared.held.HeldTerm.{HeldTerm}
use Rattle.bdd_terms.specs.Caches.{all_entries}
use Rattle.term_runner.specs.Held.{IsAt}
use Rattle.bdd_terms.specs.Tidy.{LeavesReached}
use Rattle.term_runner.specs.Tidy.{held_nodes}
use Rattle.term_runner.specs.Trail.{IsTrail}
use Rattle.term_runner.proofs.Reclaimed.{at_reclaimed, may_reclaim, roots_stand, were_there}
use Rattle.bdd_terms.proofs.Reclaimed.{leaves_reached, over_reclaimed, units_reclaimed}
use Rattle.term_runner.proofs.stacked.StackedTerms.give_back.Goals as goal

-- the roots are the nodes of the terms, and those of the trail that aren't stored
roots_are : (items slice : List HeldTerm) (trail : Stack) (roots listed : List Node) → slice ≡ items → roots ≡ listed
    → listed ≡ held_nodes slice trail.recent → roots ≡ held_nodes items trail.recent
roots_are items slice trail roots listed of_out of_roots is = of_roots ∙ is
    ∙ ap (λ (held : List HeldTerm). held_nodes held trail.recent) of_out

pub store_many-requires : goal.store_many-requires
store_many-requires g c = record { trail = (c.args.formula.now, c.requires.possible.0.trail, c.requires.possible.1.kept) }

-- the trail's terms may be stored first
at_stored : (formula : Formula) (graph : Graph) (live : Live) (stack : List HeldTerm) (old new : Stack) (stage : Stage)
    → ((quantified : List (ℕ × Term)) → IsTrail formula graph old quantified → IsTrail formula graph new quantified)
    → IsAt formula graph live stack old stage → IsAt formula graph live stack new stage
at_stored formula graph live stack old new stage same at = record { held = at.held; kept = same stage.trail at.kept }

pub reclaim-requires-clause-roots : goal.reclaim-requires-clause-roots
reclaim-requires-clause-roots g c root there =
    let table = c.args.self.now.table in
    let trail = c.store_many.new.trail in
    let same : c.as_slice-2.result.now ≡ held_nodes c.args.self.now.out.items trail.recent = roots_are
    c.args.self.now.out.items c.as_slice.result.now trail c.as_slice-2.result.now c.in_ok-roots.roots.items
    c.as_slice.ensures.value c.as_slice-2.ensures.value c.in_ok-roots.ensures in
    roots_stand c.args.formula.now table.graph table.book.state.live c.args.self.now.out.items trail c.requires.possible.0
    (at_stored c.args.formula.now table.graph table.book.state.live c.args.self.now.out.items c.args.self.now.trail trail
    c.requires.possible.0
    (c.in_ok-store_many.ensures.trail c.args.formula.now) c.requires.possible.1) root
    (subst (λ (roots : List Node). Contains roots root) same there)

pub reclaim-requires-clause-may : goal.reclaim-requires-clause-may
reclaim-requires-clause-may g c =
    let table = c.args.self.now.table in
    let trail = c.store_many.new.trail in
    let entries = all_entries c.args.self.now.caches in
    let same : c.as_slice-2.result.now ≡ held_nodes c.args.self.now.out.items trail.recent = roots_are
    c.args.self.now.out.items c.as_slice.result.now trail c.as_slice-2.result.now c.in_ok-roots.roots.items
    c.as_slice.ensures.value c.as_slice-2.ensures.value c.in_ok-roots.ensures in
    subst (λ (roots : List Node). MayReclaim table entries roots) (sym same)
    (may_reclaim c.args.formula.now table entries c.args.self.now.out.items trail c.requires.possible.0
    c.requires.ready.over.sound.tied.reduced c.requires.own
    (at_stored c.args.formula.now table.graph table.book.state.live c.args.self.now.out.items c.args.self.now.trail trail
    c.requires.possible.0
    (c.in_ok-store_many.ensures.trail c.args.formula.now) c.requires.possible.1))

pub returns-clause-at : goal.returns-clause-at
returns-clause-at g c stage at =
    let formula = c.args.formula.now in
    let old = c.args.self.now.table in
    let new = c.reclaim.new.table in
    let trail = c.store_many.new.trail in
    let before = all_entries c.args.self.now.caches in
    let after = all_entries c.reclaim.new.caches in
    let same : c.as_slice-2.result.now ≡ held_nodes c.args.self.now.out.items trail.recent = roots_are
    c.args.self.now.out.items c.as_slice.result.now trail c.as_slice-2.result.now c.in_ok-roots.roots.items
    c.as_slice.ensures.value c.as_slice-2.ensures.value c.in_ok-roots.ensures in
    let reclaims = subst (λ (roots : List Node). Reclaims old new roots before after) same c.in_ok-reclaim.ensures.reclaims in
    let sound = c.in_ok-reclaim.ensures.leaves.sound in
    let stored = at_stored formula old.graph old.book.state.live c.args.self.now.out.items c.args.self.now.trail trail stage
    (c.in_ok-store_many.ensures.trail formula) at in
    at_reclaimed c.growth_law.ensures formula old new c.args.self.now.out.items trail before after sound reclaims c.requires.own
    c.forget_dead.new.self c.forget_dead.ensures.same
    (c.forget_dead.ensures.copies old.graph
    (were_there c.growth_law.ensures formula old new c.args.self.now.out.items trail before after sound reclaims) stored.kept.copies)
    stage stored

pub returns-clause-own : goal.returns-clause-own
returns-clause-own g c =
    units_reclaimed c.args.self.now.table c.reclaim.new.table c.as_slice-2.result.now (all_entries c.args.self.now.caches)
    (all_entries c.reclaim.new.caches) c.in_ok-reclaim.ensures.reclaims (reverse c.args.self.now.out.items) c.requires.own

pub returns-clause-reached : goal.returns-clause-reached
returns-clause-reached g c =
    let old = c.args.self.now.table in
    let new = c.reclaim.new.table in
    let trail = c.store_many.new.trail in
    let before = all_entries c.args.self.now.caches in
    let after = all_entries c.reclaim.new.caches in
    let same : c.as_slice-2.result.now ≡ held_nodes c.args.self.now.out.items trail.recent = roots_are
    c.args.self.now.out.items c.as_slice.result.now trail c.as_slice-2.result.now c.in_ok-roots.roots.items
    c.as_slice.ensures.value c.as_slice-2.ensures.value c.in_ok-roots.ensures in
    let reclaims = subst (λ (roots : List Node). Reclaims old new roots before after) same c.in_ok-reclaim.ensures.reclaims in
    subst (λ (t : Stack). LeavesReached old.graph new.graph (held_nodes c.args.self.now.out.items t.recent))
    (sym c.forget_dead.ensures.same)
    (leaves_reached c.growth_law.ensures old new (held_nodes c.args.self.now.out.items trail.recent) before after
    c.in_ok-reclaim.ensures.leaves.sound reclaims c.reach_law.ensures
    (roots_stand c.args.formula.now old.graph old.book.state.live c.args.self.now.out.items trail c.requires.possible.0
    (at_stored c.args.formula.now old.graph old.book.state.live c.args.self.now.out.items c.args.self.now.trail trail c.requires.possible.0
    (c.in_ok-store_many.ensures.trail c.args.formula.now) c.requires.possible.1)))

pub returns-clause-alone : goal.returns-clause-alone
returns-clause-alone g c many = ap (λ (t : Stack). t.recent) c.forget_dead.ensures.same ∙ c.in_ok-store_many.ensures.alone many

pub returns-clause-few : goal.returns-clause-few
returns-clause-few g c few = ap (λ (t : Stack). t.recent) c.forget_dead.ensures.same ∙ ap (λ (t : Stack). t.recent)
    (c.store_many.ensures.few few)

pub returns-clause-ready : goal.returns-clause-ready
returns-clause-ready g c =
    let ready = c.requires.ready in
    record {
      over = over_reclaimed c.args.formula.now c.args.self.now.table c.reclaim.new.table c.as_slice-2.result.now
          (all_entries c.args.self.now.caches) (all_entries c.reclaim.new.caches) c.in_ok-reclaim.ensures.leaves.sound
          c.in_ok-reclaim.ensures.reclaims ready.over;
      none_empty = ready.none_empty;
    }
