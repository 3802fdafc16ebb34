-- What is left to show of `Caches::exists`.
use Rattle.apply_and.specs.Cache.{entries as conjunctions}
use Rattle.imply.specs.Cache.{entries as implications}
use Rattle.quantify.specs.ExistsCache.{both_caches}
use Rattle.bdd_terms.proofs.AllCaches.{both_unnamed, caches_parts, quantification_accounts, quantification_keeps, quantifications_fit}
use Rattle.bdd_terms.proofs.caches.Caches.exists.Goals as goal

pub returns-clause-keeps : goal.returns-clause-keeps
returns-clause-keeps g c =
    let caches = c.args.self.now in
    quantification_keeps c.entry_law.ensures c.args.table.now c.exists.new.table (conjunctions caches.ands)
    (implications caches.implications) (both_caches caches.quantifications caches.ors) (caches_parts caches) c.requires.fits
    c.exists.result (both_caches c.exists.new.cache c.exists.new.ors)
    (both_unnamed c.exists.new.cache c.exists.new.ors) c.exists.ensures.others c.exists.ensures.retired

pub exists-requires-clause-fits : goal.exists-requires-clause-fits
exists-requires-clause-fits g c =
    let caches = c.args.self.now in
    quantifications_fit c.entry_law.ensures c.args.table.now (conjunctions caches.ands) (implications caches.implications)
    (both_caches caches.quantifications caches.ors) c.requires.fits

pub returns-clause-accounts : goal.returns-clause-accounts
returns-clause-accounts g c whole =
    let caches = c.args.self.now in
    quantification_accounts c.args.table.now c.exists.new.table (conjunctions caches.ands) (implications caches.implications)
    (both_caches caches.quantifications caches.ors)
    (both_caches c.exists.new.cache c.exists.new.ors) (both_unnamed caches.quantifications caches.ors) c.requires.sound
    c.exists.ensures.retired (c.exists.ensures.none_added whole)
