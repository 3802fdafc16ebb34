-- The laws of entries: those that were used last stand in front and are not pushed out, which entries there are, what `keep`
-- hands back, and what a full turn of them leaves.
use Rattle.std.specs.Prelude.{◌≡◌, ◌+◌, ◌-◌, ◌<◌, ◌≤◌, ◌⊎◌, ◌↔◌, ℕ, Bool, true, false, List, [], ◌∷◌, ◌++◌, Some, None, IsSome, IfSome}
use Rattle.std.specs.Prelude.{IsTrue, IsFalse, Contains, length, take, drop}
use Rattle.std.specs.List.{IsDistinct, filter, list_any, slice_get}
use Rattle.std.specs.Map.{keys_of, lookup}
use Rattle.op_cache.specs.Cache.{IsBounded, cache_of, looked, kept, without_last, last_of}

-- whether a key is equal to one of the keys
abbrev pub is_among : {K : Type 0} → (K → K → Bool) → List K → K → Bool
is_among eq keys key = list_any (eq key) keys

-- The keys, of which no two are equal, are those of the first entries, in whatever order.
pub record AreInFront {K V : Type 0} (eq : K → K → Bool) (entries : List (K × V)) (keys : List K) : Type 0 where
  pub distinct : IsDistinct eq keys
  pub first : (key : K) → is_among eq (take (length keys) (keys_of entries)) key ≡ is_among eq keys key

-- The keys that were used stand in front. While they are no more than the capacity, each of them has its entry, and `keep`
-- pushes out none of them.
pub record UsedInFront (K V : Type 0) (eq : K → K → Bool) : Type 0 where
  -- before the first use
  pub none : (entries : List (K × V)) → AreInFront eq entries []
  -- each of them has its entry
  pub stands : (entries : List (K × V)) (keys : List K) (key : K) → AreInFront eq entries keys → IsTrue (is_among eq keys key)
      → IsSome (lookup (eq key) entries)
  -- a look-up of one of them
  pub looked_again : (entries : List (K × V)) (keys : List K) (key : K) → AreInFront eq entries keys → IsTrue (is_among eq keys key)
      → AreInFront eq (looked eq entries key) keys
  -- a look-up that finds another key
  pub looked_more : (entries : List (K × V)) (keys : List K) (key : K) → AreInFront eq entries keys → IsFalse (is_among eq keys key)
      → IsSome (lookup (eq key) entries)
      → AreInFront eq (looked eq entries key) (key ∷ keys)
  -- a look-up that finds nothing
  pub looked_none : (entries : List (K × V)) (key : K) → lookup (eq key) entries ≡ None → looked eq entries key ≡ entries
  -- one of them is kept again
  pub kept_again : (entries : List (K × V)) (keys : List K) (capacity : ℕ) (key : K) (value : V) → AreInFront eq entries keys
      → IsTrue (is_among eq keys key)
      → AreInFront eq (kept eq capacity entries key value).0 keys
  -- another key is kept
  pub kept_more : (entries : List (K × V)) (keys : List K) (capacity : ℕ) (key : K) (value : V) → AreInFront eq entries keys
      → IsFalse (is_among eq keys key)
      → length keys + 1 ≤ capacity → AreInFront eq (kept eq capacity entries key value).0 (key ∷ keys)
  -- and a look-up of one of them finds what it found before: with one of them kept again, and with another key kept
  pub kept_again_values : (entries : List (K × V)) (keys : List K) (capacity : ℕ) (key : K) (value : V) (other : K)
      → AreInFront eq entries keys → IsTrue (is_among eq keys key)
      → IsFalse (eq key other) → lookup (eq other) (kept eq capacity entries key value).0 ≡ lookup (eq other) entries
  pub kept_more_values : (entries : List (K × V)) (keys : List K) (capacity : ℕ) (key : K) (value : V) (other : K)
      → AreInFront eq entries keys → IsFalse (is_among eq keys key)
      → IsTrue (is_among eq keys other) → length keys + 1 ≤ capacity
      → lookup (eq other) (kept eq capacity entries key value).0 ≡ lookup (eq other) entries
  -- the last entry is taken out, and is none of them
  pub popped : (entries : List (K × V)) (keys : List K) → AreInFront eq entries keys → length keys + 1 ≤ length entries
      → AreInFront eq (without_last entries) keys
  -- what makes room for a new key is none of them
  pub pushed_out : (entries : List (K × V)) (keys : List K) (capacity : ℕ) (key : K) (value : V)
      → IsBounded eq (cache_of entries capacity) → AreInFront eq entries keys
      → lookup (eq key) entries ≡ None → length keys + 1 ≤ capacity
      → IfSome (kept eq capacity entries key value).1 (λ pair. IsFalse (is_among eq keys pair.0))

-- Which entries there are: those of pairs that were kept.
pub record OnlyKept (K V : Type 0) (eq : K → K → Bool) : Type 0 where
  -- what a look-up finds is the value of an entry
  pub found : (entries : List (K × V)) (key : K) (value : V) → lookup (eq key) entries ≡ Some value
      → (stored : K) × Contains entries (stored, value) × IsTrue (eq key stored)
  -- and the value of the key's entry is found
  pub finds : (entries : List (K × V)) (key stored : K) (value : V) → IsDistinct eq (keys_of entries) → Contains entries (stored, value)
      → IsTrue (eq key stored)
      → lookup (eq key) entries ≡ Some value
  -- a look-up neither makes nor loses an entry
  pub looked_same : (entries : List (K × V)) (key : K) (entry : K × V) → Contains (looked eq entries key) entry ↔ Contains entries entry
  -- nor changes what a look-up finds
  pub looked_values : (entries : List (K × V)) (key other : K) → lookup (eq other) (looked eq entries key) ≡ lookup (eq other) entries
  pub looked_as_many : (entries : List (K × V)) (key : K) → length (looked eq entries key) ≡ length entries
  -- `keep` makes the one of its pair alone, under the key or under an equal one that was there
  pub kept_only : (entries : List (K × V)) (capacity : ℕ) (key : K) (value : V) (entry : K × V)
      → Contains (kept eq capacity entries key value).0 entry
      → Contains entries entry ⊎ ((entry.1 ≡ value) × IsTrue (eq key entry.0))
  -- and loses none but the key's own and the one that it hands back
  pub others : (entries : List (K × V)) (capacity : ℕ) (key : K) (value : V) (entry : K × V) → Contains entries entry
      → Contains (kept eq capacity entries key value).0 entry ⊎ IsTrue (eq key entry.0)
      ⊎ ((kept eq capacity entries key value).1 ≡ Some entry)
  pub no_fewer : (entries : List (K × V)) (capacity : ℕ) (key : K) (value : V)
      → length entries ≤ length (kept eq capacity entries key value).0

-- What `keep` makes and hands back, by what a look-up of the key finds and by whether there is room.
pub record HandsBack (K V : Type 0) (eq : K → K → Bool) : Type 0 where
  -- the key was there: its old value
  pub replaced : (entries : List (K × V)) (capacity : ℕ) (key : K) (value old : V) → lookup (eq key) entries ≡ Some old
      → (kept eq capacity entries key value).1 ≡ Some (key, old)
  -- it was not, and there is room
  pub added : (entries : List (K × V)) (capacity : ℕ) (key : K) (value : V) → lookup (eq key) entries ≡ None → length entries < capacity
      → kept eq capacity entries key value ≡ ((key, value) ∷ entries, None)
  -- it was not, and the list was full
  pub pushed_out : (entries : List (K × V)) (capacity : ℕ) (key : K) (value : V) → lookup (eq key) entries ≡ None
      → capacity ≤ length entries
      → kept eq capacity entries key value ≡ ((key, value) ∷ without_last entries, last_of entries)

-- After so many turns, in each of which the last entry comes to the front where it stays, and is taken out where it doesn't.
abbrev pub turned : {K V : Type 0} → (K × V → Bool) → ℕ → List (K × V) → List (K × V)
turned stays turns entries = filter stays (drop (length entries - turns) entries) ++ take (length entries - turns) entries

-- What the turns show and make. After as many as there are entries, those that stay are there, in the order that they had.
pub record TakesTurns (K V : Type 0) (eq : K → K → Bool) : Type 0 where
  -- before the first turn
  pub begins : (stays : K × V → Bool) (entries : List (K × V)) → turned stays 0 entries ≡ entries
  -- after the last one
  pub ends : (stays : K × V → Bool) (entries : List (K × V)) → turned stays (length entries) entries ≡ filter stays entries
  -- the entry whose turn it is
  pub shows : (stays : K × V → Bool) (entries : List (K × V)) (turns : ℕ) → turns < length entries
      → last_of (turned stays turns entries) ≡ slice_get entries (length entries - turns - 1)
  -- one that stays is looked up
  pub kept : (stays : K × V → Bool) (entries : List (K × V)) (turns : ℕ) (entry : K × V) → IsDistinct eq (keys_of entries)
      → turns < length entries
      → slice_get entries (length entries - turns - 1) ≡ Some entry → stays entry ≡ true
      → looked eq (turned stays turns entries) entry.0 ≡ turned stays (turns + 1) entries
  -- one that doesn't stay is taken out
  pub gone : (stays : K × V → Bool) (entries : List (K × V)) (turns : ℕ) (entry : K × V) → turns < length entries
      → slice_get entries (length entries - turns - 1) ≡ Some entry → stays entry ≡ false
      → without_last (turned stays turns entries) ≡ turned stays (turns + 1) entries
