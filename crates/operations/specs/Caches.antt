-- The computed cache of one operation as a list of entries, for any keys and values: what a look-up leaves, what is kept,
-- and which keys stand in front. (Brace, Rudell, Bryant: Efficient Implementation of a BDD Package, DAC 1990.)
use Rattle.std.specs.Prelude.{◌≡◌, ◌∷◌, ◌≤◌, ◌<◌, ◌⊎◌, ℕ, Bool, true, List, Option, None, Some, IfSome, IsFalse, MatchOption, Contains, length, map}
use Rattle.std.specs.Prelude.{if◌then◌else◌}
use Rattle.std.specs.Map.{lookup}
use Rattle.op_cache.specs.Cache.{Cache, IsBounded, looked as after_look, kept as after_keep}
use Rattle.op_cache.specs.Laws.{AreInFront, is_among}
use Rattle.operations.specs.Entries.{Entry, HaveSame, IsClauseOf, IsNamed, Names, just_of}

-- no two of these entries name one clause
abbrev pub AreNamedOnce : List Entry → Type 0
AreNamedOnce listed = (one other : Entry) (id : ℕ) → Contains listed one → Contains listed other → Names one id → Names other id → one
    ≡ other

-- One entry is kept among others, some of which make room. The clause of an entry that isn't there any more is handed back.
pub record IsOneKept (before after : List Entry) (new : Entry) (given : Option ℕ) : Type 0 where
  pub kept : Contains after new
  pub only : (entry : Entry) → Contains after entry → (entry ≡ new) ⊎ Contains before entry
  pub gone : (entry : Entry) (id : ℕ) → Contains before entry → Names entry id → IsNamed after id ⊎ (given ≡ Some id)
  pub named : (id : ℕ) → given ≡ Some id → IsNamed before id
  -- it is named no more, but by the new entry
  pub given_up : AreNamedOnce before → (entry : Entry) (id : ℕ) → given ≡ Some id → Names entry id → Contains before entry
      → Contains after entry → entry ≡ new

-- these keys, and one more, which may be among them
abbrev pub with_key : {K : Type 0} → (K → K → Bool) → List K → K → List K
with_key eq keys key = if is_among eq keys key then keys else key ∷ keys

module _ {K V : Type 0} (entry_of : K × V → Entry) where
  abbrev pub listed : Cache K V → List Entry
  listed cache = map entry_of cache.entries

  -- the entry is of this key
  abbrev pub IsOfKey : K → Entry → Type 0
  IsOfKey key entry = (value : V) × (entry ≡ entry_of (key, value))

  -- the clause that is handed back is that of the pair that gave way, if one did
  abbrev pub IsGiven : Option (K × V) → Option ℕ → Type 0
  IsGiven None given = given ≡ None
  IsGiven (Some pair) given = IsClauseOf (just_of (entry_of pair)) given

  -- a look-up leaves the same entries
  pub record LeavesEntries (before after : Cache K V) : Type 0 where
    pub same : HaveSame (listed before) (listed after)
    pub no_fewer : length (listed before) ≤ length (listed after)
    pub capacity : after.capacity ≡ before.capacity

  -- A key is looked up: what is found is listed, and what is listed is found. The entries stay, and where nothing is found,
  -- nothing changes. A key that was used is found, and one that is found comes to stand in front.
  pub record IsLookedUp (eq : K → K → Bool) (before after : Cache K V) (key : K) (result : Option V) : Type 0 where
    pub found : IfSome result (λ value. Contains (listed after) (entry_of (key, value)))
    pub exact : (value : V) → Contains (listed before) (entry_of (key, value)) → result ≡ Some value
    pub leaves : LeavesEntries before after
    pub missed : result ≡ None → after ≡ before
    pub used : (keys : List K) → AreInFront eq before.entries keys
        → MatchOption result (IsFalse (is_among eq keys key)) (λ value. AreInFront eq after.entries (with_key eq keys key))

  -- All entries stay but that of the key, and those of a cache that was full.
  pub record MakesRoom (before after : Cache K V) (key : K) : Type 0 where
    pub others : (entry : Entry) → Contains (listed before) entry → Contains (listed after) entry
        ⊎ (IsOfKey key entry ⊎ (before.capacity ≤ length (listed before)))
    pub no_fewer : length (listed before) ≤ length (listed after)
    pub capacity : after.capacity ≡ before.capacity

  -- The entry of a key is kept: it takes the place of the one of this key, or of the last one where the cache was full.
  pub record KeepsEntry (eq : K → K → Bool) (before after : Cache K V) (key : K) (new : Entry) (given : Option ℕ) : Type 0 where
    pub one : IsOneKept (listed before) (listed after) new given
    pub room : MakesRoom before after key
    -- while the keys that were used are no more than the capacity, none of them is pushed out
    pub used : (keys : List K) → AreInFront eq before.entries keys → IsFalse (is_among eq keys key) → length keys < before.capacity
        → AreInFront eq after.entries (key ∷ keys)

  -- Through whatever calls, entries are forgotten only where the cache is full.
  pub record Remembers (before after : Cache K V) : Type 0 where
    pub entries : (entry : Entry) → Contains (listed before) entry → Contains (listed after) entry
        ⊎ (before.capacity ≤ length (listed after))
    pub no_fewer : length (listed before) ≤ length (listed after)
    pub capacity : after.capacity ≡ before.capacity

-- Keys that count as equal are the same, and an entry tells what was asked and found.
pub record TellsKeys {K V : Type 0} (eq : K → K → Bool) (entry_of : K × V → Entry) : Type 0 where
  pub same : (one other : K) → eq one other ≡ true → one ≡ other
  pub own : (one other : K × V) → entry_of one ≡ entry_of other → one ≡ other

-- What the calls of a bounded cache make of its entries. What is remembered through several calls is what each of them
-- remembers.
pub record Keeping (K V : Type 0) (eq : K → K → Bool) : Type 0 where
  pub looked : (entry_of : K × V → Entry) → TellsKeys eq entry_of → (before after : Cache K V) → IsBounded eq before → (key : K)
      (result : Option V) → result ≡ lookup (eq key) before.entries → after ≡ record before { entries = after_look eq before.entries key }
      → IsLookedUp entry_of eq before after key result
  pub kept : (entry_of : K × V → Entry) → TellsKeys eq entry_of → (before after : Cache K V) → IsBounded eq before → IsBounded eq after
      → (key : K) (value : V)
      → after ≡ record before { entries = (after_keep eq before.capacity before.entries key value).0 } → lookup (eq key) after.entries
      ≡ Some value
      → (given : Option ℕ) → IsGiven entry_of (after_keep eq before.capacity before.entries key value).1 given
      → KeepsEntry entry_of eq before after key (entry_of (key, value)) given
  pub further : (entry_of : K × V → Entry) (before mid after : Cache K V) → Remembers entry_of before mid → Remembers entry_of mid after
      → Remembers entry_of before after
  -- an entry is kept that was not there
  pub makes_room : (entry_of : K × V → Entry) (before mid after : Cache K V) (key : K)
      → ((value : V) → Contains (listed entry_of before) (entry_of (key, value)) → ⊥)
      → Remembers entry_of before mid → MakesRoom entry_of mid after key → Remembers entry_of before after
