-- What is left to show of `Caches::implies`.
use Rattle.std.specs.Prelude.{min}
use Rattle.node_table.specs.Diagram.{levels, level_of}
use Rattle.operations.specs.Budget.{most_additions}
use Rattle.operations.specs.Operands.{levels_from}
use Rattle.apply_and.specs.Cache.{entries as conjunctions}
use Rattle.imply.specs.Cache.{entries as implications}
use Rattle.quantify.specs.ExistsCache.{both_caches}
use Rattle.bdd_terms.proofs.AllCaches.{caches_parts, implication_accounts, implication_keeps, implications_fit}
use Rattle.bdd_terms.proofs.Leaving.{within_most}
use Rattle.bdd_terms.proofs.caches.Caches.implies.Goals as goal

pub returns-clause-steps : goal.returns-clause-steps
returns-clause-steps g c =
    let old = c.args.table.now in
    c.steps_law.ensures.at_most old c.implies.new.table (most_additions (levels_from old.graph c.args.u c.args.v))
    (most_additions (levels old.graph)) _
    (within_most (levels old.graph) (min (level_of old.graph c.args.u) (level_of old.graph c.args.v))) c.implies.ensures.steps

pub returns-clause-keeps : goal.returns-clause-keeps
returns-clause-keeps g c =
    let caches = c.args.self.now in
    implication_keeps c.entry_law.ensures c.args.table.now c.implies.new.table (conjunctions caches.ands) (implications caches.implications)
    (both_caches caches.quantifications caches.ors) (caches_parts caches) c.requires.fits
    c.implies.result (implications c.implies.new.cache) c.implies.ensures.others c.implies.ensures.named c.implies.ensures.retires

pub implies-requires-clause-fits : goal.implies-requires-clause-fits
implies-requires-clause-fits g c =
    let caches = c.args.self.now in
    implications_fit c.entry_law.ensures c.args.table.now (conjunctions caches.ands) (implications caches.implications)
    (both_caches caches.quantifications caches.ors) c.requires.fits

pub returns-clause-accounts : goal.returns-clause-accounts
returns-clause-accounts g c whole =
    let caches = c.args.self.now in
    implication_accounts c.args.table.now c.implies.new.table (conjunctions caches.ands) (implications caches.implications)
    (both_caches caches.quantifications caches.ors) (implications c.implies.new.cache)
    (c.implies.ensures.accounts whole)
