-- What is left to show of `Caches::few_law`.
use Rattle.std.proofs.Common.{◌≡◌, arith}
use Rattle.operations.specs.Computed.{most_entries}
use Rattle.apply_and.specs.Cache.{entries as conjunctions}
use Rattle.imply.specs.Cache.{entries as implications}
use Rattle.quantify.specs.ExistsCache.{both_caches}
use Rattle.bdd_terms.proofs.AllCaches.{both_unnamed}
use Rattle.bdd_terms.proofs.NamedClauses.{named_few}
use Rattle.bdd_terms.proofs.caches.Caches.few_law.Goals as goal

pub returns : goal.returns
returns c size have =
    let caches = c.args.self.now in
    let ands : most_entries caches.ands ≡ size = cc in
    let own : most_entries caches.implications ≡ size = cc in
    named_few (conjunctions caches.ands) (implications caches.implications) (both_caches caches.quantifications caches.ors)
    (both_unnamed caches.quantifications caches.ors) size
    (omega (arith, c.few_law.ensures, ands)) (omega (arith, c.few_law-2.ensures, own))
