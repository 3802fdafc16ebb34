-- What is left to show of `CachesPurge::purge`.
use Rattle.std.proofs.Common.{◌++◌, [], ◌∷◌}
use Rattle.apply_and.specs.Cache.{entries as conjunctions}
use Rattle.imply.specs.Cache.{entries as implications}
use Rattle.quantify.specs.ExistsCache.{quantifications}
use Rattle.quantify.specs.OrCache.{disjunctions}
use Rattle.bdd_terms.proofs.AllCaches.{caches_parts}
use Rattle.bdd_terms.proofs.Purged.{all_purged, disjunctions_still, implications_still, quantifications_still}
use Rattle.bdd_terms.proofs.caches.CachesPurge.purge.Goals as goal

pub purge-requires-2-clause-fits : goal.purge-requires-2-clause-fits
purge-requires-2-clause-fits g c =
    let caches = c.args.self.now in
    implications_still c.purge_law.ensures c.entry_law.ensures c.args.marks.now c.args.table.now
    (conjunctions caches.ands) (implications caches.implications) (quantifications caches.quantifications) (disjunctions caches.ors)
    (caches_parts caches) c.requires.sound c.requires.fits
    c.purge.new.table (conjunctions c.purge.new.self) c.purge.ensures.purged

pub purge-requires-3-clause-fits : goal.purge-requires-3-clause-fits
purge-requires-3-clause-fits g c =
    let caches = c.args.self.now in
    quantifications_still c.purge_law.ensures c.entry_law.ensures c.args.marks.now c.args.table.now
    (conjunctions caches.ands) (implications caches.implications) (quantifications caches.quantifications) (disjunctions caches.ors)
    (caches_parts caches) c.requires.sound c.requires.fits
    c.purge.new.table (conjunctions c.purge.new.self) c.purge.ensures.purged
    c.purge-2.new.table (implications c.purge-2.new.self) c.purge-2.ensures.purged

pub purge-requires-4-clause-fits : goal.purge-requires-4-clause-fits
purge-requires-4-clause-fits g c =
    let caches = c.args.self.now in
    disjunctions_still c.purge_law.ensures c.entry_law.ensures c.args.marks.now c.args.table.now
    (conjunctions caches.ands) (implications caches.implications) (quantifications caches.quantifications) (disjunctions caches.ors)
    (caches_parts caches) c.requires.sound c.requires.fits
    c.purge.new.table (conjunctions c.purge.new.self) c.purge.ensures.purged
    c.purge-2.new.table (implications c.purge-2.new.self) c.purge-2.ensures.purged
    c.purge-3.new.table (quantifications c.purge-3.new.self) c.purge-3.ensures.purged

pub returns-clause-purged : goal.returns-clause-purged
returns-clause-purged g c =
    let caches = c.args.self.now in
    all_purged c.purge_law.ensures c.entry_law.ensures c.args.marks.now c.args.table.now
    (conjunctions caches.ands) (implications caches.implications) (quantifications caches.quantifications) (disjunctions caches.ors)
    (caches_parts caches) c.requires.sound c.requires.fits
    c.purge.new.table (conjunctions c.purge.new.self) c.purge.ensures.purged
    c.purge-2.new.table (implications c.purge-2.new.self) c.purge-2.ensures.purged
    c.purge-3.new.table (quantifications c.purge-3.new.self) c.purge-3.ensures.purged
    c.purge-4.new.table (disjunctions c.purge-4.new.self) c.purge-4.ensures.purged

pub returns-clause-sizes : goal.returns-clause-sizes
returns-clause-sizes g c = λ i. c.purge.ensures.sizes i
    ++ (c.purge-2.ensures.sizes i ++ (c.purge-3.ensures.sizes i
    ++ (c.purge-4.ensures.sizes i ++ c.args.self.now.capacity.entries ∷ [])))

pub returns-clause-steps : goal.returns-clause-steps
returns-clause-steps g c =
    let law = c.steps_law.ensures in
    law.further _ _ _ 0 0 _ c.purge.ensures.steps (law.further _ _ _ 0 0 _ c.purge-2.ensures.steps
    (law.further _ _ _ 0 0 _ c.purge-3.ensures.steps c.purge-4.ensures.steps))
