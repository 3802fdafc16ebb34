-- Each call keeps the keys different and the entries few.
use Rattle.std.proofs.Common.{◌≡◌, ℕ, ◌-◌, ◌<◌, ◌≤◌, Bool, true, false, List, ◌∷◌, length, take, slice_get, option_map, Option, Some, None}
use Rattle.std.proofs.Common.{Result, Ok, Err, OnOk, OnErr, refl, sym, ap, ◌∙◌, arith, nat_lt}
use Rattle.std.proofs.lemmas.List.{length-take, length-take-le, take_all}
use Rattle.std.proofs.lemmas.Option.{slice_get_past}
use Rattle.std.specs.Cmp.{IsEquivalence}
use Rattle.std.specs.Map.{keys_of, lookup_entry, remove_entry}
use Rattle.std.specs.Option.{option_map_or}
use Rattle.op_cache.specs.Cache.{IsBounded, cache_of, looked, with_pair, kept, without_last}
use Rattle.op_cache.proofs.Entries.{keys_take, distinct_take, distinct_removed, distinct_more, found_apart, length_removed, none_found}
use Rattle.op_cache.proofs.Entries.{none_in_front, value_of_entry, pair_by, kept_by}
use Rattle.lru.specs.LruCache.{LruCache, lru_cache, put_entries, displaced}
use borrow.Author.Tests.{ltb-true, ltb-false}

module _ {K V : Type 0} (eq : K → K → Bool) where
  pub fewer_bounded : (n : ℕ) (entries : List (K × V)) (capacity : ℕ) → n ≤ length entries → IsBounded eq (cache_of entries capacity)
      → IsBounded eq (cache_of (take n entries) capacity)
  fewer_bounded n entries capacity within b = record {
    distinct = rw keys_take (distinct_take eq n (keys_of entries) b.distinct);
    few = let now : length (take n entries) ≡ n = length-take-le n entries within in let before = b.few in omega arith;
    some = b.some;
  }

  pub without_last_bounded : (entries : List (K × V)) (capacity : ℕ) → IsBounded eq (cache_of entries capacity)
      → IsBounded eq (cache_of (without_last entries) capacity)
  without_last_bounded entries capacity = fewer_bounded (length entries - 1) entries capacity (omega arith)

  module _ (laws : IsEquivalence eq) where
    -- an entry that was found stands in front, with whatever value
    pub in_front_bounded : (entries : List (K × V)) (capacity : ℕ) (key : K) (found : K × V) (value : V)
        → lookup_entry (eq key) entries ≡ Some found
        → IsBounded eq (cache_of entries capacity) → IsBounded eq (cache_of ((found.0, value) ∷ remove_entry (eq key) entries) capacity)
    in_front_bounded entries capacity key found value is b = record {
      distinct = distinct_more eq found.0 (keys_of (remove_entry (eq key) entries)) (found_apart eq laws key entries found b.distinct is)
          (distinct_removed (eq key) eq entries b.distinct);
      few = let one_less = length_removed (eq key) entries found is in let before = b.few in omega arith;
      some = b.some;
    }

    pub looked_bounded : (entries : List (K × V)) (capacity : ℕ) (key : K) → IsBounded eq (cache_of entries capacity)
        → IsBounded eq (cache_of (looked eq entries key) capacity)
    looked_bounded entries capacity key b = (elim (lookup_entry (eq key) entries) as (λ o. lookup_entry (eq key) entries ≡ o
        → IsBounded eq (cache_of (option_map_or (λ found. found ∷ remove_entry (eq key) entries) o entries) capacity)) [
          | None ↦ λ is. b
          | Some found ↦ λ is. in_front_bounded entries capacity key found found.1 is b
        ]) refl

    -- What `push` of the kit's `lru` speaks of: at a new key, and at one that was looked up.
    abbrev pushed_entry : List (K × V) → ℕ → K → V → List (K × V) × Option (K × V)
    pushed_entry entries capacity key value = ((key, value) ∷ take (capacity - 1) entries, slice_get entries (capacity - 1))

    new_is : (entries : List (K × V)) (capacity : ℕ) (key : K) (value : V) → IsBounded eq (cache_of entries capacity)
        → with_pair eq capacity entries key value ≡ pushed_entry entries capacity key value
    new_is entries capacity key value b = let few = b.few in let some = b.some in
        (elim (nat_lt (length entries) capacity) as (λ t. nat_lt (length entries) capacity ≡ t
        → pair_by entries key value t ≡ pushed_entry entries capacity key value) [
          | true ↦ λ is. let room : length entries < capacity = ltb-true (length entries) capacity is in
              let all : take (capacity - 1) entries ≡ entries = take_all (capacity - 1) entries (omega arith) in
              let none : slice_get entries (capacity - 1) ≡ None = slice_get_past entries (capacity - 1) (omega arith) in
              λ i. ((key, value) ∷ sym all i, sym none i)
          | false ↦ λ is. let full : length entries
              ≡ capacity = (let no_room : capacity ≤ length entries = ltb-false (length entries) capacity is in omega arith) in
              (let at : ℕ → List (K × V) × Option (K × V) = λ n. ((key, value) ∷ take (n - 1) entries, slice_get entries (n - 1)) in
              ap at full)
        ]) refl

    abbrev pushed_by : List (K × V) → ℕ → K → V → Option (K × V) → List (K × V) × Option (K × V)
    pushed_by entries capacity key value o = (
      option_map_or (λ e. (e.0, value) ∷ remove_entry (eq key) entries) o ((key, value) ∷ take (capacity - 1) entries),
      option_map_or (λ old. Some (key, old)) (option_map (λ e. e.1) o) (slice_get entries (capacity - 1)),
    )

    same_by : (entries : List (K × V)) (capacity : ℕ) (key : K) (value : V) → IsBounded eq (cache_of entries capacity)
        → (o : Option (K × V))
        → kept_by eq capacity entries key value o ≡ pushed_by entries capacity key value o
    same_by entries capacity key value b None = new_is entries capacity key value b
    same_by entries capacity key value b (Some found) = refl

    pub kept_is : (entries : List (K × V)) (capacity : ℕ) (key : K) (value : V) → IsBounded eq (cache_of entries capacity)
        → (put_entries eq (lru_cache entries capacity) key value ≡ (kept eq capacity entries key value).0)
        × (displaced eq (lru_cache entries capacity) key value ≡ (kept eq capacity entries key value).1)
    kept_is entries capacity key value b =
        let same = same_by entries capacity key value b (lookup_entry (eq key) entries) in (
          sym (ap (λ p. p.0) same),
          ap (λ o. option_map_or (λ old. Some (key, old)) o (slice_get entries (capacity - 1)))
              (sym (value_of_entry (eq key) entries)) ∙ sym (ap (λ p. p.1) same),
        )

    put_bounded : (entries : List (K × V)) (capacity : ℕ) (key : K) (value : V) → IsBounded eq (cache_of entries capacity)
        → IsBounded eq (cache_of (put_entries eq (lru_cache entries capacity) key value) capacity)
    put_bounded entries capacity key value b = (elim (lookup_entry (eq key) entries) as (λ o. lookup_entry (eq key) entries ≡ o
        → IsBounded eq (cache_of (option_map_or (λ e. (e.0, value) ∷ remove_entry (eq key) entries) o
        ((key, value) ∷ take (capacity - 1) entries)) capacity)) [
          | None ↦ λ is. record {
            distinct = distinct_more eq key (keys_of (take (capacity - 1) entries))
                (rw keys_take (none_in_front (eq key) (capacity - 1) (keys_of entries) (none_found (eq key) entries is)))
                (rw keys_take (distinct_take eq (capacity - 1) (keys_of entries) b.distinct));
            few = let now = length-take (capacity - 1) entries in let some = b.some in omega arith;
            some = b.some;
          }
          | Some found ↦ λ is. in_front_bounded entries capacity key found value is b
        ]) refl

    -- a call of `push`, also one that is refused
    pub pushed_bounded : {X E : Type 0} (r : Result X E) (old new : LruCache K V) (key : K) (value : V)
        → OnOk r (new ≡ lru_cache (put_entries eq old key value) old.cap) → OnErr r (new ≡ old)
        → IsBounded eq (cache_of old.entries old.cap) → IsBounded eq (cache_of new.entries new.cap)
    pushed_bounded (Ok x) old new key value ok err b = rw ok (put_bounded old.entries old.cap key value b)
    pushed_bounded (Err x) old new key value ok err b = rw err b
