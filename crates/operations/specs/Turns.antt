-- A bounded cache is purged by turns of its last entry: it comes to the front where the nodes that it names are marked, else it
-- goes, and its clause is retired. After as many turns as there are entries, those that stay stand in the order that they had.
use Rattle.std.specs.Prelude.{◌≡◌, ◌+◌, ◌-◌, ◌<◌, ℕ, Bool, true, false, List, Option, None, Some, length, map, drop}
use Rattle.std.specs.List.{filter}
use Rattle.node_table.specs.Table.{TableState, IsSound}
use Rattle.node_table.specs.Progress.{Steps}
use Rattle.op_cache.specs.Cache.{Cache, IsBounded, last_of, looked, without_last}
use Rattle.op_cache.specs.Laws.{turned}
use Rattle.operations.specs.Accounts.{RetiresOne}
use Rattle.operations.specs.Caches.{TellsKeys, listed}
use Rattle.operations.specs.Entries.{Entry, Fits, IsClauseOf, just_of}
use Rattle.operations.specs.Purged.{IsPurged, MayRetire, are_marked}

module _ {K V : Type 0} (entry_of : K × V → Entry) (marks : List Bool) where
  -- the nodes that the pair's entry names are marked
  abbrev pub is_kept : K × V → Bool
  is_kept pair = are_marked marks (entry_of pair)

  -- The last pair has its turn: what becomes of the cache,
  pub record HasTurn (eq : K → K → Bool) (before after : Cache K V) (last : K × V) : Type 0 where
    pub stays : is_kept last ≡ true → after ≡ record before { entries = looked eq before.entries last.0 }
    pub goes : is_kept last ≡ false → after ≡ record before { entries = without_last before.entries }

  -- and what becomes of the table.
  pub record RetiresTurn {S : Type 0} (old new : TableState S) (last : K × V) : Type 0 where
    pub stays : is_kept last ≡ true → new ≡ old
    pub goes : is_kept last ≡ false → (given : Option ℕ) × IsClauseOf (just_of (entry_of last)) given
        × RetiresOne old new given

  -- The same after so many turns.
  pub record HadTurns (before after : Cache K V) (turns : ℕ) : Type 0 where
    pub cache : after ≡ record before { entries = turned is_kept turns before.entries }

  pub record HaveRetired {S : Type 0} (old new : TableState S) (before : Cache K V) (turns : ℕ) : Type 0 where
    pub rest : List Entry
    pub purged : IsPurged old new marks (map entry_of (drop (length before.entries - turns) before.entries)) rest
    pub steps : Steps old new 0 None

-- What turns make of the cache.
pub record CacheTurns (K V : Type 0) (eq : K → K → Bool) : Type 0 where
  pub begins : (entry_of : K × V → Entry) (marks : List Bool) (cache : Cache K V) → HadTurns entry_of marks cache cache 0
  pub turn : (entry_of : K × V → Entry) (marks : List Bool) (before middle after : Cache K V) (turns : ℕ) → IsBounded eq before → turns
      < length before.entries
      → HadTurns entry_of marks before middle turns
      → ((last : K × V) → last_of middle.entries ≡ Some last → HasTurn entry_of marks eq middle after last)
      → HadTurns entry_of marks before after (turns + 1)
  pub ends : (entry_of : K × V → Entry) (marks : List Bool) (before after : Cache K V)
      → HadTurns entry_of marks before after (length before.entries)
      → (listed entry_of after ≡ filter (are_marked marks) (listed entry_of before)) × (after.capacity ≡ before.capacity)

-- What they make of the table.
pub record TableTurns (S : Type 0) (K V : Type 0) (eq : K → K → Bool) : Type 0 where
  pub begins : (entry_of : K × V → Entry) (marks : List Bool) (old : TableState S) (cache : Cache K V) → IsSound old
      → HaveRetired entry_of marks old old cache 0
  -- the clause of the last entry may be retired, since no other entry names it
  pub may : (entry_of : K × V → Entry) (marks : List Bool) (old now : TableState S) (before middle : Cache K V) (turns : ℕ) (last : K × V)
      → TellsKeys eq entry_of → IsBounded eq before → turns < length before.entries → Fits old (listed entry_of before)
      → HadTurns entry_of marks before middle turns → HaveRetired entry_of marks old now before turns → last_of middle.entries
      ≡ Some last
      → MayRetire now (entry_of last)
  pub turn : (entry_of : K × V → Entry) (marks : List Bool) (old now new : TableState S) (before middle : Cache K V) (turns : ℕ)
      → TellsKeys eq entry_of → IsBounded eq before → turns < length before.entries → Fits old (listed entry_of before)
      → HadTurns entry_of marks before middle turns → HaveRetired entry_of marks old now before turns
      → ((last : K × V) → last_of middle.entries ≡ Some last → RetiresTurn entry_of marks now new last)
      → HaveRetired entry_of marks old new before (turns + 1)
  pub ends : (entry_of : K × V → Entry) (marks : List Bool) (old new : TableState S) (before after : Cache K V)
      → HadTurns entry_of marks before after (length before.entries)
      → HaveRetired entry_of marks old new before (length before.entries)
      → IsPurged old new marks (listed entry_of before) (listed entry_of after)
