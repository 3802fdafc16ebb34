-- What is left to show of `Caches::exists_all`.
use Rattle.std.proofs.Common.{ap, ℕ, [], ◌∷◌, ◌++◌}
use Rattle.apply_and.specs.Cache.{entries as conjunctions}
use Rattle.imply.specs.Cache.{entries as implications}
use Rattle.operations.specs.Computed.{most_entries}
use Rattle.quantify.specs.ExistsCache.{both_caches, quantifications}
use Rattle.quantify.specs.OrCache.{disjunctions}
use Rattle.bdd_terms.proofs.AllCaches.{both_unnamed, caches_parts, disjunctions_fit, others_beside, quantification_accounts}
use Rattle.bdd_terms.proofs.AllCaches.{quantification_keeps}
use Rattle.bdd_terms.proofs.caches.Caches.exists_all.Goals as goal

pub exists_all-requires-clause-fits : goal.exists_all-requires-clause-fits
exists_all-requires-clause-fits g c =
    let caches = c.args.self.now in
    disjunctions_fit c.entry_law.ensures c.args.table.now (conjunctions caches.ands) (implications caches.implications)
    (quantifications caches.quantifications) (disjunctions caches.ors) c.requires.fits

pub returns-clause-keeps : goal.returns-clause-keeps
returns-clause-keeps g c =
    let caches = c.args.self.now in
    quantification_keeps c.entry_law.ensures c.args.table.now c.exists_all.new.table (conjunctions caches.ands)
    (implications caches.implications) (both_caches caches.quantifications caches.ors) (caches_parts caches) c.requires.fits
    c.exists_all.result (both_caches caches.quantifications c.exists_all.new.ors)
    (both_unnamed caches.quantifications c.exists_all.new.ors)
    (λ others fits whole. others_beside c.entry_law.ensures c.args.table.now c.exists_all.new.table (quantifications caches.quantifications)
    (disjunctions caches.ors) (disjunctions c.exists_all.new.ors) others fits
    (λ beside. c.exists_all.ensures.others (quantifications caches.quantifications ++ others) beside whole)) c.exists_all.ensures.retired

pub returns-clause-accounts : goal.returns-clause-accounts
returns-clause-accounts g c whole =
    let caches = c.args.self.now in
    quantification_accounts c.args.table.now c.exists_all.new.table (conjunctions caches.ands) (implications caches.implications)
    (both_caches caches.quantifications caches.ors)
    (both_caches caches.quantifications c.exists_all.new.ors) (both_unnamed caches.quantifications caches.ors) c.requires.sound
    c.exists_all.ensures.retired (c.exists_all.ensures.none_added whole)

pub returns-clause-sizes : goal.returns-clause-sizes
returns-clause-sizes g c =
    let caches = c.args.self.now in
    ap (λ (n : ℕ). most_entries caches.ands ∷ most_entries caches.implications ∷ most_entries caches.quantifications ∷ n
    ∷ caches.capacity.entries ∷ [])
    c.exists_all.ensures.remembered.capacity
