-- The recent terms stand, and are stored with what they say.
use Rattle.std.proofs.Common.{Result, Ok, Err}
use Rattle.std.specs.Prelude.{OnOk}
use Rattle.term_runner.proofs.Stored.{recent_stand, trail_stored}
use Rattle.term_runner.proofs.reclamation.store_many.Goals as goal

with_ok : {T E : Type 0} (r : Result T E) (P Q : Type 0) → (P → Q) → OnOk r P → OnOk r Q
with_ok (Ok x) P Q f own = f own
with_ok (Err e) P Q f own = tt

pub store-requires-clause-copies : goal.store-requires-clause-copies
store-requires-clause-copies g c = c.requires.trail.2.copies

pub store-requires-clause-nodes : goal.store-requires-clause-nodes
store-requires-clause-nodes g c = recent_stand c.requires.trail.0 c.args.table.now.graph c.args.trail.now c.requires.trail.1
    c.requires.trail.2

pub returns-clause-trail : goal.returns-clause-trail
returns-clause-trail g c formula quantified is =
    with_ok c.store.result _ _
    (λ stores. trail_stored formula c.args.table.now.graph c.args.trail.now c.store.new.self quantified stores c.store.ensures.same
    c.store.ensures.copies is) c.store.ensures.stores

pub returns-clause-alone : goal.returns-clause-alone
returns-clause-alone g c many = with_ok c.store.result _ _ (λ stores. stores.none_recent) c.store.ensures.stores
