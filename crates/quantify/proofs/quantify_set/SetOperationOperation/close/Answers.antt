-- The node of both sides is kept as the result of its node and place, or it is refused, or the cache is.
use Rattle.std.proofs.Common.{ap, length, refl, subst, sym}
use Rattle.node_table.specs.declared.error.TableError.TheVariants.{OutOfMemory}
use Rattle.node_table.specs.HandedOn.{handed_on}
use Rattle.quantify.specs.SetQuantification.{QuantifiesSet}
use Rattle.quantify.proofs.ClosedSet.{closed_kept, closed_refused}
use Rattle.quantify.proofs.OpenedSet.{with_found}
use Rattle.quantify.proofs.Running.{Answer}
use Rattle.quantify.proofs.quantify_set.SetOperationOperation.close.Goals as goal

pub returns-in_err-w-clause-closes : goal.returns-in_err-w-clause-closes
returns-in_err-w-clause-closes g c =
    let p = c.args.sides.now in
    let caches = c.args.caches.now in
    let came = c.in_err-w.field-0.0 in
    subst (λ (r : Answer). QuantifiesSet caches.set.now c.args.table.now caches p.node p.place c.combine.new.table c.combine.new.caches r)
    (sym (handed_on _ came came c.from_residual.ensures.1 refl)) c.in_err-w.ensures

pub returns-in_err-w-clause-levels : goal.returns-in_err-w-clause-levels
returns-in_err-w-clause-levels g c = ap length (returns-in_err-w-clause-closes g c).runs.steps.extends.nodes.order

pub returns-in_err-keep-clause-closes : goal.returns-in_err-keep-clause-closes
returns-in_err-keep-clause-closes g c =
    let p = c.args.sides.now in
    let caches = c.args.caches.now in
    let old = c.args.table.now in
    let new = c.combine.new.table in
    let after = c.combine.new.caches in
    let found = c.keep.new.self in
    subst (λ (r : Answer). QuantifiesSet caches.set.now old caches p.node p.place new (with_found after found) r)
    (sym (handed_on _ OutOfMemory OutOfMemory c.from_residual-in_err-keep.ensures.1 refl))
    (closed_refused caches.set.now old caches p.node p.place new after c.in_ok-w.w c.in_ok-w.ensures c.steps_law.ensures
    c.growth_law.ensures found c.in_err-keep.ensures.refused)

pub returns-in_err-keep-clause-levels : goal.returns-in_err-keep-clause-levels
returns-in_err-keep-clause-levels g c = ap length (returns-in_err-keep-clause-closes g c).runs.steps.extends.nodes.order

pub returns-clause-closes : goal.returns-clause-closes
returns-clause-closes g c =
    let p = c.args.sides.now in
    let caches = c.args.caches.now in
    closed_kept caches.set.now c.args.table.now caches p.node p.place c.combine.new.table c.combine.new.caches c.in_ok-w.w c.in_ok-w.ensures
    c.growth_law.ensures c.requires.can.stands c.keep.new.self _ c.in_ok-keep.ensures.kept.one

pub returns-clause-levels : goal.returns-clause-levels
returns-clause-levels g c = ap length (returns-clause-closes g c).runs.steps.extends.nodes.order
