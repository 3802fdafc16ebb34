-- A bounded cache as contracts see it, and what its calls make of the entries.
use Rattle.std.specs.Prelude.{◌-◌, ◌<◌, ◌≤◌, ℕ, Bool, List, ◌∷◌, Option, None, Some, length, take, nat_lt, refl, if◌then◌else◌}
use Rattle.std.specs.Coded.{Coded, code_by, coded×, coded_list, coded_ℕ}
use Rattle.std.specs.List.{IsDistinct, slice_get}
use Rattle.std.specs.Map.{keys_of, lookup_entry, remove_entry}
use Rattle.std.specs.Option.{option_map_or}

-- The entries, the latest used first, and how many there may be.
pub record Cache (K V : Type 0) : Type 0 where
  pub entries : List (K × V)
  pub capacity : ℕ

-- No two entries have equal keys, and there are no more of them than the capacity.
pub record IsBounded {K V : Type 0} (eq : K → K → Bool) (cache : Cache K V) : Type 0 where
  pub distinct : IsDistinct eq (keys_of cache.entries)
  pub few : length cache.entries ≤ cache.capacity
  pub some : 0 < cache.capacity

module _ {K V : Type 0} where
  abbrev pub cache_of : List (K × V) → ℕ → Cache K V
  cache_of entries capacity = record { entries = entries; capacity = capacity }

  abbrev pub cache_code : Coded K → Coded V → Coded (Cache K V)
  cache_code k v = code_by (List (K × V) × ℕ) (coded× (coded_list (coded× k v)) coded_ℕ) (λ c. (c.entries, c.capacity))
      (λ p. cache_of p.0 p.1) (λ _. refl)

  -- the entry whose use lies the longest ago
  abbrev pub last_of : List (K × V) → Option (K × V)
  last_of entries = slice_get entries (length entries - 1)

  -- all entries but that one
  abbrev pub without_last : List (K × V) → List (K × V)
  without_last entries = take (length entries - 1) entries

  module _ (eq : K → K → Bool) where
    -- After a look-up the entry of the key comes first, and all else stays in its order. Nothing changes where there is none.
    abbrev pub looked : List (K × V) → K → List (K × V)
    looked entries key = option_map_or (λ found. found ∷ remove_entry (eq key) entries) (lookup_entry (eq key) entries) entries

    -- The entry of a key that is there comes first with the new value, and the old value is handed back with the key.
    abbrev pub with_value : List (K × V) → K → V → K × V → List (K × V) × Option (K × V)
    with_value entries key value found = ((found.0, value) ∷ remove_entry (eq key) entries, Some (key, found.1))

    -- A new pair comes first. Where the list was full, the last entry makes room for it and is handed back.
    abbrev pub with_pair : ℕ → List (K × V) → K → V → List (K × V) × Option (K × V)
    with_pair capacity entries key value = if nat_lt (length entries) capacity then ((key, value) ∷ entries, None) else
        ((key, value) ∷ without_last entries, last_of entries)

    -- after `keep`, the entries, and the pair that is handed back
    abbrev pub kept : ℕ → List (K × V) → K → V → List (K × V) × Option (K × V)
    kept capacity entries key value = option_map_or (with_value entries key value) (lookup_entry (eq key) entries)
        (with_pair capacity entries key value)
