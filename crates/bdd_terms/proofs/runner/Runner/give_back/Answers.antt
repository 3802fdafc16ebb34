-- The nodes of the terms that are out are the roots.
use Rattle.std.proofs.Common.{◌≡◌, ◌⊎◌, ◌∙◌, List, [], Contains, ℕ, Result, Ok, Err, refl, sym, ap, subst, inl}
use Rattle.std.specs.Prelude.{IfErr, OnErr, OnOk}
use Rattle.node_table.specs.declared.error.TableError.{TableError}
use Rattle.node_table.specs.declared.error.TableError.TheVariants.{OutOfMemory, WriteFault}
use Rattle.node_table.specs.declared.node.Node.{Node}
use Rattle.node_table.specs.HandedOn.{handed_on, no_answer}
use Rattle.node_table.specs.Progress.{Leaves, error_of}
use Rattle.node_table.specs.Table.{TableState}
use Rattle.operations.specs.Entries.{Entry}
use Rattle.reclaim.specs.Reclaimed.{MayReclaim, Reclaims}
use Rattle.bdd_terms.specs.Caches.{all_entries}
use Rattle.bdd_terms.specs.Runner.{nodes_of}
use Rattle.bdd_terms.specs.Tidy.{LeavesReached}
use Rattle.bdd_terms.proofs.Kept.{reached_or_not, reclaimed_or_not, roots_stood, terms_may_reclaim}
use Rattle.bdd_terms.proofs.Leaving.{origin_left}
use Rattle.bdd_terms.proofs.runner.Runner.give_back.Given.{Over}
use Rattle.bdd_terms.proofs.runner.Runner.give_back.Goals as goal
use Rattle.bdd_terms.proofs.runner.Runner.give_back.Goals.{In_ok-roots}

same : (g : Over) (c : In_ok-roots g) (slice : List Node) → slice ≡ c.in_ok-roots.roots.items → slice ≡ nodes_of c.args.self.now.terms.out.items
same g c slice is = is ∙ c.in_ok-roots.ensures ∙ ap nodes_of c.as_slice.ensures.value

pub reclaim-requires-clause-sound : goal.reclaim-requires-clause-sound
reclaim-requires-clause-sound g c = c.requires.runner.over.sound

pub reclaim-requires-clause-fits : goal.reclaim-requires-clause-fits
reclaim-requires-clause-fits g c = c.requires.runner.over.fits

pub reclaim-requires-clause-roots : goal.reclaim-requires-clause-roots
reclaim-requires-clause-roots g c root there =
    let inside = (goal.at.reclaim-requires-clause-roots g c).In_ok-roots in
    roots_stood c.args.self.now c.requires.runner root
    (subst (λ (roots : List Node). Contains roots root) (same g inside c.as_slice-2.result.now c.as_slice-2.ensures.value) there)

pub reclaim-requires-clause-may : goal.reclaim-requires-clause-may
reclaim-requires-clause-may g c =
    let inside = (goal.at.reclaim-requires-clause-may g c).In_ok-roots in
    let runner = c.args.self.now in
    subst (λ (roots : List Node). MayReclaim runner.terms.table (all_entries runner.terms.caches) roots)
    (sym (same g inside c.as_slice-2.result.now c.as_slice-2.ensures.value)) (terms_may_reclaim runner c.requires.runner)

pub returns-clause-goes_on : goal.returns-clause-goes_on
returns-clause-goes_on g c =
    let inside = (goal.at.returns-clause-goes_on g c).In_ok-roots in
    let runner = c.args.self.now in
    let own = c.reclaim.ensures in
    reclaimed_or_not c.growth_law.ensures runner c.requires.runner c.reclaim.new.table c.reclaim.new.caches own.sizes c.reclaim.result
    (subst (λ (roots : List Node). OnOk c.reclaim.result (Reclaims runner.terms.table c.reclaim.new.table roots
    (all_entries runner.terms.caches) (all_entries c.reclaim.new.caches)))
    (same g inside c.as_slice-2.result.now c.as_slice-2.ensures.value) own.reclaims) own.leaves own.memory own.error

pub returns-clause-reached : goal.returns-clause-reached
returns-clause-reached g c =
    let inside = (goal.at.returns-clause-reached g c).In_ok-roots in
    let runner = c.args.self.now in
    let own = c.reclaim.ensures in
    reached_or_not c.growth_law.ensures runner c.requires.runner c.reclaim.new.table c.reclaim.new.caches own.sizes c.reach_law.ensures
    c.reclaim.result
    (subst (λ (roots : List Node). OnOk c.reclaim.result (Reclaims runner.terms.table c.reclaim.new.table roots
    (all_entries runner.terms.caches) (all_entries c.reclaim.new.caches)))
    (same g inside c.as_slice-2.result.now c.as_slice-2.ensures.value) own.reclaims) own.leaves

pub returns-clause-count : goal.returns-clause-count
returns-clause-count g c = c.reclaim.ensures.count

-- none is retired
none_retired : {S : Type 0} (old new : TableState S) (roots : List Node) (before after : List Entry) (r : Result ℕ TableError)
    → OnOk r (Reclaims old new roots before after) → OnOk r (new.retired ≡ [])
none_retired old new roots before after (Ok count) reclaims = reclaims.retired
none_retired old new roots before after (Err e) reclaims = tt

pub returns-clause-settled : goal.returns-clause-settled
returns-clause-settled g c =
    none_retired c.args.self.now.terms.table c.reclaim.new.table _ (all_entries c.args.self.now.terms.caches) (all_entries c.reclaim.new.caches)
    c.reclaim.result c.reclaim.ensures.reclaims

pub returns-clause-memory : goal.returns-clause-memory
returns-clause-memory g c none_left = (c.reclaim.ensures.memory none_left).0

pub returns-clause-kept : goal.returns-clause-kept
returns-clause-kept g c = c.reclaim.ensures.kept

pub returns-clause-top : goal.returns-clause-top
returns-clause-top g c = c.reclaim.ensures.top

pub returns-clause-same : goal.returns-clause-same
returns-clause-same g c = (refl, refl, refl, refl, refl, refl, refl)

pub returns-clause-sizes : goal.returns-clause-sizes
returns-clause-sizes g c = c.reclaim.ensures.sizes

pub returns-clause-origin : goal.returns-clause-origin
returns-clause-origin g c = origin_left c.args.self.now.terms.table c.reclaim.new.table (error_of c.reclaim.result) c.reclaim.ensures.leaves

pub returns-clause-leaves : goal.returns-clause-leaves
returns-clause-leaves g c = c.reclaim.ensures.leaves

pub returns-clause-error : goal.returns-clause-error
returns-clause-error g c = c.reclaim.ensures.error

-- memory ran out before
pub returns-in_err-roots-clause-goes_on : goal.returns-in_err-roots-clause-goes_on
returns-in_err-roots-clause-goes_on g c whole = c.requires.runner

pub returns-in_err-roots-clause-reached : goal.returns-in_err-roots-clause-reached
returns-in_err-roots-clause-reached g c =
    let runner = c.args.self.now in
    subst (λ (r : Result ℕ TableError). OnOk r (LeavesReached runner.terms.table.graph runner.terms.table.graph
    (nodes_of runner.terms.out.items))) (sym (handed_on _ OutOfMemory OutOfMemory c.from_residual.ensures.1 refl)) tt

pub returns-in_err-roots-clause-count : goal.returns-in_err-roots-clause-count
returns-in_err-roots-clause-count g c = no_answer _ OutOfMemory _ c.from_residual.ensures.1

pub returns-in_err-roots-clause-settled : goal.returns-in_err-roots-clause-settled
returns-in_err-roots-clause-settled g c =
    subst (λ (r : Result ℕ TableError). OnOk r (c.args.self.now.terms.table.retired ≡ []))
    (sym (handed_on _ OutOfMemory OutOfMemory c.from_residual.ensures.1 refl)) tt

pub returns-in_err-roots-clause-memory : goal.returns-in_err-roots-clause-memory
returns-in_err-roots-clause-memory g c none_left = refl

pub returns-in_err-roots-clause-kept : goal.returns-in_err-roots-clause-kept
returns-in_err-roots-clause-kept g c =
    let graph = c.args.self.now.terms.table.graph in
    subst (λ (r : Result ℕ TableError). OnErr r (graph ≡ graph))
    (sym (handed_on _ OutOfMemory OutOfMemory c.from_residual.ensures.1 refl)) refl

pub returns-in_err-roots-clause-top : goal.returns-in_err-roots-clause-top
returns-in_err-roots-clause-top g c = refl

pub returns-in_err-roots-clause-same : goal.returns-in_err-roots-clause-same
returns-in_err-roots-clause-same g c = (refl, refl, refl, refl, refl, refl, refl)

pub returns-in_err-roots-clause-sizes : goal.returns-in_err-roots-clause-sizes
returns-in_err-roots-clause-sizes g c = refl

pub returns-in_err-roots-clause-origin : goal.returns-in_err-roots-clause-origin
returns-in_err-roots-clause-origin g c = refl

pub returns-in_err-roots-clause-leaves : goal.returns-in_err-roots-clause-leaves
returns-in_err-roots-clause-leaves g c =
    let table = c.args.self.now.terms.table in
    subst (λ (r : Result ℕ TableError). Leaves table table (error_of r))
    (sym (handed_on _ OutOfMemory OutOfMemory c.from_residual.ensures.1 refl))
    (c.steps_law.ensures.no_memory table c.requires.runner.over.sound).leaves

pub returns-in_err-roots-clause-error : goal.returns-in_err-roots-clause-error
returns-in_err-roots-clause-error g c =
    subst (λ (r : Result ℕ TableError). IfErr r (λ e. (e ≡ OutOfMemory) ⊎ (e ≡ WriteFault)))
    (sym (handed_on _ OutOfMemory OutOfMemory c.from_residual.ensures.1 refl)) (inl refl)
