-- The computed caches of all operations as one list of entries, and what a call leaves of them.
use Rattle.std.specs.Prelude.{◌≡◌, ◌≤◌, ◌*◌, ◌++◌, ℕ, List, [], ◌∷◌, Option}
use Rattle.node_table.specs.declared.error.TableError.{TableError}
use Rattle.node_table.specs.Table.{TableState}
use Rattle.operations.specs.Accounts.{IsWhole}
use Rattle.operations.specs.Entries.{Entry, Fits, NamesOnly, RetiresOwn}
use Rattle.operations.specs.Computed.{most_entries}
use Rattle.apply_and.specs.Cache.{entries as conjunctions}
use Rattle.imply.specs.Cache.{entries as implications}
use Rattle.quantify.specs.ExistsCache.{both_caches}
use Rattle.bdd_terms.specs.declared.caches.Caches.{Caches}

-- the entries of all four
abbrev pub all_entries : Caches → List Entry
all_entries caches = conjunctions caches.ands ++ (implications caches.implications ++ both_caches caches.quantifications caches.ors)

-- how many entries each of them may have, and one that is made for a set of variables
abbrev pub sizes : Caches → List ℕ
sizes caches = most_entries caches.ands ∷ most_entries caches.implications ∷ most_entries caches.quantifications
    ∷ most_entries caches.ors ∷ caches.capacity.entries ∷ []

-- each may have so many
abbrev pub HaveSize : Caches → ℕ → Type 0
HaveSize caches size = sizes caches ≡ size ∷ size ∷ size ∷ size ∷ size ∷ []

-- each has room for all pairs of so many nodes
pub record HaveRoom (caches : Caches) (nodes : ℕ) : Type 0 where
  pub size : ℕ
  pub have : HaveSize caches size
  pub room : nodes * nodes ≤ size

-- A call leaves the entries right, unless a write failed: each fits, and was there before or names a clause
-- that came since. It retired only clauses that came since, and those that an entry named.
pub record KeepsEntries {S : Type 0} (old new : TableState S) (before after : List Entry) (error : Option TableError) : Type 0 where
  pub fits : IsWhole error → Fits new after
  pub named : IsWhole error → NamesOnly before after old.book.state new.book.state
  pub retires : RetiresOwn old new before
