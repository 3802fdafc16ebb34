-- The computed cache of any operation, as contracts see it: its entries, those that were used last in front, and how many there
-- may be. (Brace, Rudell, Bryant: Efficient Implementation of a BDD Package, DAC 1990.)
use Rattle.std.specs.Prelude.{ℕ, List}
use Rattle.op_cache.specs.Laws.{AreInFront}
use Rattle.operations.specs.declared.computed.Results.{Results}
use Rattle.operations.specs.Caches.{listed}
use Rattle.operations.specs.Entries.{Entry}
use Rattle.operations.specs.Pairs.{Pair, same_pair}

module _ {C K V : Type 0} where
  abbrev pub entries_by : (K × V → Entry) → Results C K V → List Entry
  entries_by entry_of cache = listed entry_of cache.results

  -- how many entries there may be
  abbrev pub most_entries : Results C K V → ℕ
  most_entries cache = cache.results.capacity

-- the entries of these pairs stand in front
abbrev pub StandInFront : {C V : Type 0} → Results C Pair V → List Pair → Type 0
StandInFront cache pairs = AreInFront same_pair cache.results.entries pairs
