-- The keys that were used stand in front.
use Rattle.std.proofs.Common.{◌≡◌, ℕ, zero, suc, ◌+◌, ◌-◌, ◌≤◌, Bool, true, false, ◌||◌, cond, List, [], ◌∷◌, option_map, length, take}
use Rattle.std.proofs.Common.{slice_get, nat_lt, Some, None, IsSome, IfSome, refl, sym, ap, ◌∙◌, subst, arith}
use Rattle.std.specs.Prelude.{IsTrue, IsFalse}
use Rattle.std.specs.Cmp.{IsEquivalence}
use Rattle.std.specs.List.{IsDistinct, AllByRecursion, list_any}
use Rattle.std.specs.Map.{keys_of, lookup, lookup_entry, remove_entry}
use Rattle.std.proofs.lemmas.Option.{slice_get-map}
use Rattle.op_cache.specs.Cache.{IsBounded, cache_of, looked, with_pair, kept, without_last, last_of}
use Rattle.op_cache.specs.Laws.{is_among, AreInFront}
use Rattle.op_cache.proofs.Entries.{keys_take, distinct_more, none_in_front, none_found, one_found, value_of_entry, neither, pair_by}
use Rattle.op_cache.proofs.Entries.{kept_by}
use borrow.Author.Tests.{ltb-false}

or_swap : (a b x : Bool) → (a || (b || x)) ≡ (b || (a || x))
or_swap true true x = refl
or_swap true false x = refl
or_swap false true x = refl
or_swap false false x = refl

take_take : {X : Type 0} (n m : ℕ) (xs : List X) → n ≤ m → take n (take m xs) ≡ take n xs
take_take zero m xs h = refl
take_take (suc n) zero xs h = absurd (omega arith)
take_take (suc n) (suc m) [] h = refl
take_take (suc n) (suc m) (x ∷ xs) h = ap (λ l. x ∷ l) (take_take n m xs (omega arith))

all_at : {X : Type 0} (P : X → Type 0) (xs : List X) (i : ℕ) (x : X) → AllByRecursion P xs → slice_get xs i ≡ Some x → P x
all_at P [] i x h is = cc
all_at P (y ∷ xs) zero x h is = let same : y ≡ x = cc in subst P same h.0
all_at P (y ∷ xs) (suc i) x h is = all_at P xs i x h.1 is

module _ {K : Type 0} (eq : K → K → Bool) (laws : IsEquivalence eq) where
  -- a place behind the first ones has another key
  pub apart_from_first : (n i : ℕ) (keys : List K) (key : K) → IsDistinct eq keys → slice_get keys i ≡ Some key → n ≤ i
      → list_any (eq key) (take n keys) ≡ false
  unfolding IsDistinct
  apart_from_first zero i keys key d is h = refl
  apart_from_first (suc n) i [] key d is h = refl
  apart_from_first (suc n) zero (x ∷ keys) key d is h = absurd (omega arith)
  apart_from_first (suc n) (suc i) (x ∷ keys) key d is h =
      let differ : eq key x ≡ false = laws.symm key x ∙ all_at (λ y. eq x y ≡ false) keys i key d.0 is in
      rw differ (apart_from_first n i keys key d.1 is (omega arith))

  alike : (x y q : K) → eq x y ≡ true → eq q y ≡ eq q x
  alike x y q h = laws.symm q y ∙ sym (laws.congr x y q h) ∙ laws.symm x q

module _ {K V : Type 0} (eq : K → K → Bool) where
  -- a found entry that comes to the front takes no other key out of the first ones
  again : (key : K) (n : ℕ) (entries : List (K × V)) (found : K × V) (q : K) → lookup_entry (eq key) entries ≡ Some found
      → list_any (eq key) (take n (keys_of entries)) ≡ true
      → list_any (eq q) (take n (found.0 ∷ keys_of (remove_entry (eq key) entries))) ≡ list_any (eq q) (take n (keys_of entries))
  again key zero entries found q is among = refl
  again key (suc n) [] found q is among = cc
  again key (suc zero) (e ∷ entries) found q is among = (elim (eq key e.0) as (λ b. eq key e.0 ≡ b → (b || false) ≡ true
      → (eq q found.0 || false) ≡ (eq q e.0 || false)) [
        | true ↦ λ t a. let is' = rw t at is in let same : e ≡ found = cc in ap (λ f. eq q f.0 || false) (sym same)
        | false ↦ λ t a. cc
      ]) refl among
  again key (suc (suc n)) (e ∷ entries) found q is among = (elim (eq key e.0) as (λ b. eq key e.0 ≡ b
      → (b || list_any (eq key) (take (suc n) (keys_of entries))) ≡ true
      → (eq q found.0 || list_any (eq q) (take (suc n) (keys_of (cond b entries (e ∷ remove_entry (eq key) entries)))))
      ≡ (eq q e.0 || list_any (eq q) (take (suc n) (keys_of entries)))) [
        | true ↦ λ t a. let is' = rw t at is in let same : e ≡ found = cc in
            ap (λ f. eq q f.0 || list_any (eq q) (take (suc n) (keys_of entries))) (sym same)
        | false ↦ λ t a. let before = again key (suc n) entries found q (rw t at is) a in
            or_swap (eq q found.0) (eq q e.0) (list_any (eq q) (take n (keys_of (remove_entry (eq key) entries))))
            ∙ ap (λ x. eq q e.0 || x) before
      ]) refl among

  -- an entry behind the first ones is taken out
  behind : (test : K → Bool) (n : ℕ) (entries : List (K × V)) → list_any test (take n (keys_of entries)) ≡ false
      → take n (keys_of (remove_entry test entries)) ≡ take n (keys_of entries)
  behind test zero entries h = refl
  behind test (suc n) [] h = refl
  behind test (suc n) (e ∷ entries) h = let both = neither (test e.0) (list_any test (take n (keys_of entries))) h in
      rw both.0 (ap (λ l. e.0 ∷ l) (behind test n entries both.1))

  pub none_used : (entries : List (K × V)) → AreInFront eq entries []
  unfolding IsDistinct
  none_used entries = record { distinct = tt; first = λ key. refl }

  -- the look-up of a key among the first ones finds an entry
  pub stands_in_front : (entries : List (K × V)) (keys : List K) (key : K) → AreInFront eq entries keys → list_any (eq key) keys ≡ true
      → (found : K × V) × (lookup_entry (eq key) entries ≡ Some found)
  stands_in_front entries keys key front among = (elim (lookup_entry (eq key) entries) as (λ o. lookup_entry (eq key) entries ≡ o
      → (found : K × V) × (o ≡ Some found)) [
        | None ↦ λ is. let nowhere = none_in_front (eq key) (length keys) (keys_of entries) (none_found (eq key) entries is) in
            let here : list_any (eq key) (take (length keys) (keys_of entries)) ≡ true = front.first key ∙ among in cc
        | Some found ↦ λ is. (found, refl)
      ]) refl

  pub again_in_front : (entries : List (K × V)) (keys : List K) (key : K) (found : K × V) (value : V) → AreInFront eq entries keys
      → list_any (eq key) keys ≡ true
      → lookup_entry (eq key) entries ≡ Some found → AreInFront eq ((found.0, value) ∷ remove_entry (eq key) entries) keys
  again_in_front entries keys key found value front among is = record {
    distinct = front.distinct;
    first = λ q. again key (length keys) entries found q is (front.first key ∙ among) ∙ front.first q;
  }

  -- a new first entry, behind which the first ones stand as before
  pub more_in_front : IsEquivalence eq → (entries rest : List (K × V)) (keys : List K) (key stored : K) (value : V)
      → AreInFront eq entries keys → list_any (eq key) keys ≡ false
      → eq key stored ≡ true → take (length keys) (keys_of rest) ≡ take (length keys) (keys_of entries)
      → AreInFront eq ((stored, value) ∷ rest) (key ∷ keys)
  more_in_front laws entries rest keys key stored value front apart equal same = record {
    distinct = distinct_more eq key keys apart front.distinct;
    first = λ q. rw (same, alike eq laws key stored q equal) (ap (λ b. eq q key || b) (front.first q));
  }

  -- where the look-up of a value finds something, that of the entry does
  pub entry_of_value : (key : K) (entries : List (K × V)) → IsSome (lookup (eq key) entries)
      → (found : K × V) × (lookup_entry (eq key) entries ≡ Some found)
  entry_of_value key entries some = (elim (lookup_entry (eq key) entries) as (λ o. lookup_entry (eq key) entries ≡ o
      → (found : K × V) × (o ≡ Some found)) [
        | None ↦ λ is. let none : lookup (eq key) entries ≡ None = sym (value_of_entry (eq key) entries) ∙ ap (option_map (λ e. e.1)) is in
            let some' = rw none at some in cc
        | Some found ↦ λ is. (found, refl)
      ]) refl

  pub no_entry : (key : K) (entries : List (K × V)) → lookup (eq key) entries ≡ None → lookup_entry (eq key) entries ≡ None
  no_entry key entries none = (elim (lookup_entry (eq key) entries) as (λ o. option_map (λ e. e.1) o ≡ None → o ≡ None) [
    | None ↦ λ is. refl
    | Some found ↦ λ is. cc
  ]) (value_of_entry (eq key) entries ∙ none)

  pub stands : (entries : List (K × V)) (keys : List K) (key : K) → AreInFront eq entries keys → IsTrue (is_among eq keys key)
      → IsSome (lookup (eq key) entries)
  stands entries keys key front among = let found = stands_in_front entries keys key front among in
      rw (← value_of_entry (eq key) entries, found.1) refl

  pub looked_again : (entries : List (K × V)) (keys : List K) (key : K) → AreInFront eq entries keys → IsTrue (is_among eq keys key)
      → AreInFront eq (looked eq entries key) keys
  looked_again entries keys key front among = let found = stands_in_front entries keys key front among in
      rw found.1 (again_in_front entries keys key found.0 found.0.1 front among found.1)

  pub looked_none : (entries : List (K × V)) (key : K) → lookup (eq key) entries ≡ None → looked eq entries key ≡ entries
  looked_none entries key none = let is = no_entry key entries none in rw is

  pub popped : (entries : List (K × V)) (keys : List K) → AreInFront eq entries keys → length keys + 1 ≤ length entries
      → AreInFront eq (without_last entries) keys
  popped entries keys front few = record {
    distinct = front.distinct;
    first = λ q. rw (keys_take (length entries - 1) entries, take_take (length keys) (length entries - 1) (keys_of entries) (omega arith))
        (front.first q);
  }

  pub kept_again : (entries : List (K × V)) (keys : List K) (capacity : ℕ) (key : K) (value : V) → AreInFront eq entries keys
      → IsTrue (is_among eq keys key)
      → AreInFront eq (kept eq capacity entries key value).0 keys
  kept_again entries keys capacity key value front among = let found = stands_in_front entries keys key front among in
      rw found.1 (again_in_front entries keys key found.0 value front among found.1)

  module _ (laws : IsEquivalence eq) where
    found_more : (entries : List (K × V)) (keys : List K) (key : K) (found : K × V) (value : V) → AreInFront eq entries keys
        → list_any (eq key) keys ≡ false
        → lookup_entry (eq key) entries ≡ Some found → AreInFront eq ((found.0, value) ∷ remove_entry (eq key) entries) (key ∷ keys)
    found_more entries keys key found value front apart is = more_in_front laws entries
        (remove_entry (eq key) entries) keys key found.0 value front apart
        (one_found (eq key) entries found is).0 (behind (eq key) (length keys) entries (front.first key ∙ apart))

    pub looked_more : (entries : List (K × V)) (keys : List K) (key : K) → AreInFront eq entries keys → IsFalse (is_among eq keys key)
        → IsSome (lookup (eq key) entries)
        → AreInFront eq (looked eq entries key) (key ∷ keys)
    looked_more entries keys key front apart some = let found = entry_of_value key entries some in
        rw found.1 (found_more entries keys key found.0 found.0.1 front apart found.1)

    new_more : (entries : List (K × V)) (keys : List K) (capacity : ℕ) (key : K) (value : V) → AreInFront eq entries keys
        → list_any (eq key) keys ≡ false → length keys + 1 ≤ capacity
        → AreInFront eq (with_pair eq capacity entries key value).0 (key ∷ keys)
    new_more entries keys capacity key value front apart few =
        (elim (nat_lt (length entries) capacity) as (λ t. nat_lt (length entries) capacity ≡ t
        → AreInFront eq (pair_by entries key value t).0 (key ∷ keys)) [
          | true ↦ λ is. more_in_front laws entries entries keys key key value front apart (laws.refl key) refl
          | false ↦ λ is. let full : capacity ≤ length entries = ltb-false (length entries) capacity is in
              more_in_front laws entries (without_last entries) keys key key value front apart (laws.refl key)
              (rw keys_take (take_take (length keys) (length entries - 1) (keys_of entries) (omega arith)))
        ]) refl

    pub kept_more : (entries : List (K × V)) (keys : List K) (capacity : ℕ) (key : K) (value : V) → AreInFront eq entries keys
        → IsFalse (is_among eq keys key)
        → length keys + 1 ≤ capacity → AreInFront eq (kept eq capacity entries key value).0 (key ∷ keys)
    kept_more entries keys capacity key value front apart few =
        (elim (lookup_entry (eq key) entries) as (λ o. lookup_entry (eq key) entries ≡ o
        → AreInFront eq (kept_by eq capacity entries key value o).0 (key ∷ keys)) [
          | None ↦ λ is. new_more entries keys capacity key value front apart few
          | Some found ↦ λ is. found_more entries keys key found value front apart is
        ]) refl

    -- the last entry is none of the first ones
    last_apart : (entries : List (K × V)) (keys : List K) → IsDistinct eq (keys_of entries) → AreInFront eq entries keys
        → length keys + 1 ≤ length entries
        → IfSome (last_of entries) (λ pair. IsFalse (is_among eq keys pair.0))
    last_apart entries keys distinct front few = (elim (last_of entries) as (λ o. last_of entries ≡ o
        → IfSome o (λ pair. IsFalse (is_among eq keys pair.0))) [
          | None ↦ λ is. tt
          | Some pair ↦ λ is. sym (front.first pair.0)
              ∙ apart_from_first eq laws (length keys) (length entries - 1) (keys_of entries) pair.0 distinct
              (slice_get-map (λ (e : K × V). e.0) entries (length entries - 1) ∙ ap (option_map (λ e. e.0)) is) (omega arith)
        ]) refl

    pub pushed_out : (entries : List (K × V)) (keys : List K) (capacity : ℕ) (key : K) (value : V)
        → IsBounded eq (cache_of entries capacity) → AreInFront eq entries keys
        → lookup (eq key) entries ≡ None → length keys + 1 ≤ capacity
        → IfSome (kept eq capacity entries key value).1 (λ pair. IsFalse (is_among eq keys pair.0))
    pushed_out entries keys capacity key value bounded front none few = let is = no_entry key entries none in
        rw is ((elim (nat_lt (length entries) capacity) as (λ t. nat_lt (length entries) capacity ≡ t
        → IfSome (pair_by entries key value t).1 (λ pair. IsFalse (is_among eq keys pair.0))) [
          | true ↦ λ is. tt
          | false ↦ λ is. let full : capacity ≤ length entries = ltb-false (length entries) capacity is in
              last_apart entries keys bounded.distinct front (omega arith)
        ]) refl)
