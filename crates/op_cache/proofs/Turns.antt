-- A turn of the entries: the last one comes to the front where it stays, and is taken out where it doesn't.
use Rattle.std.proofs.Common.{◌≡◌, ℕ, zero, suc, ◌+◌, ◌-◌, ◌<◌, Bool, true, false, cond, List, [], ◌∷◌, ◌++◌, length, take, drop, slice_get}
use Rattle.std.proofs.Common.{option_map, Some, refl, sym, ap, ◌∙◌, subst, arith}
use Rattle.std.proofs.lemmas.List.{append-nil, append_assoc, drop_all, map-append, take_all}
use Rattle.std.proofs.lemmas.List.Folds.{list_any-append}
use Rattle.std.proofs.lemmas.Option.{slice_get-map}
use Rattle.std.specs.Cmp.{IsEquivalence}
use Rattle.std.specs.List.{IsDistinct, filter, list_any}
use Rattle.std.specs.Map.{keys_of, lookup_entry, remove_entry}
use Rattle.lru.proofs.Pairs.{last_of_push}
use Rattle.op_cache.specs.Cache.{looked, without_last, last_of}
use Rattle.op_cache.specs.Laws.{turned}
use Rattle.op_cache.proofs.Entries.{any_none, keys_take, neither}
use Rattle.op_cache.proofs.Front.{apart_from_first}

module _ {X : Type 0} where
  -- a place within the list has an element
  there_is : (i : ℕ) (xs : List X) → i < length xs → (x : X) × (slice_get xs i ≡ Some x)
  there_is i [] within = absurd (omega arith)
  there_is zero (x ∷ xs) within = (x, refl)
  there_is (suc i) (x ∷ xs) within = there_is i xs (omega arith)

  -- a list is cut behind an element and before it
  cut_behind : (i : ℕ) (xs : List X) (x : X) → slice_get xs i ≡ Some x → take (suc i) xs ≡ take i xs ++ x ∷ []
  cut_behind i [] x is = cc
  cut_behind zero (y ∷ xs) x is = let same : y ≡ x = cc in ap (λ e. e ∷ []) same
  cut_behind (suc i) (y ∷ xs) x is = ap (λ l. y ∷ l) (cut_behind i xs x is)

  cut_before : (i : ℕ) (xs : List X) (x : X) → slice_get xs i ≡ Some x → drop i xs ≡ x ∷ drop (suc i) xs
  cut_before i [] x is = cc
  cut_before zero (y ∷ xs) x is = let same : y ≡ x = cc in ap (λ e. e ∷ xs) same
  cut_before (suc i) (y ∷ xs) x is = cut_before i xs x is

module _ {K : Type 0} (eq : K → K → Bool) where
  -- a place in front of the last ones has another key
  apart_from_last : (i : ℕ) (keys : List K) (key : K) → IsDistinct eq keys → slice_get keys i ≡ Some key
      → list_any (eq key) (drop (suc i) keys) ≡ false
  unfolding IsDistinct
  apart_from_last i [] key d is = refl
  apart_from_last zero (x ∷ keys) key d is = let same : x ≡ key = cc in
      subst (λ k. list_any (eq k) keys ≡ false) same (any_none (eq x) keys d.0)
  apart_from_last (suc i) (x ∷ keys) key d is = apart_from_last i keys key d.1 is

module _ {K V : Type 0} where
  keys_drop : (n : ℕ) (entries : List (K × V)) → keys_of (drop n entries) ≡ drop n (keys_of entries)
  keys_drop zero entries = refl
  keys_drop (suc n) [] = refl
  keys_drop (suc n) (e ∷ entries) = keys_drop n entries

  -- a test that finds nothing finds nothing among those that stay
  none_stays : (stays : K × V → Bool) (test : K → Bool) (entries : List (K × V)) → list_any test (keys_of entries) ≡ false
      → list_any test (keys_of (filter stays entries)) ≡ false
  none_stays stays test [] none = refl
  none_stays stays test (e ∷ entries) none = let both = neither (test e.0) (list_any test (keys_of entries)) none in
      let rest = none_stays stays test entries both.1 in
      elim (stays e) as (λ b. list_any test (keys_of (cond b (e ∷ filter stays entries) (filter stays entries))) ≡ false) [
        | true ↦ rw both.0 rest
        | false ↦ rest
      ]

  -- the last entry is found, where its key is no other one's
  last_found : (test : K → Bool) (front : List (K × V)) (entry : K × V) → list_any test (keys_of front) ≡ false
      → test entry.0 ≡ true
      → (lookup_entry test (front ++ entry ∷ []) ≡ Some entry) × (remove_entry test (front ++ entry ∷ []) ≡ front)
  last_found test [] entry none is = rw is (refl, refl)
  last_found test (e ∷ front) entry none is = let both = neither (test e.0) (list_any test (keys_of front)) none in
      let on = last_found test front entry both.1 is in
      rw both.0 (on.0, ap (λ l. e ∷ l) on.1)

module _ {K V : Type 0} (stays : K × V → Bool) (entries : List (K × V)) where
  -- what had its turn and stays, and all before the place
  abbrev around : ℕ → List (K × V)
  around place = filter stays (drop (suc place) entries) ++ take place entries

  -- the entry at the place is the last one while its turn is to come
  at_last : (turns place : ℕ) (entry : K × V) → length entries - turns ≡ suc place → slice_get entries place ≡ Some entry
      → turned stays turns entries ≡ around place ++ entry ∷ []
  at_last turns place entry here is = rw here (ap (λ l. filter stays (drop (suc place) entries) ++ l) (cut_behind place entries entry is)
      ∙ sym (append_assoc (filter stays (drop (suc place) entries)) (take place entries) (entry ∷ [])))

  -- after its turn it is the first one where it stays, and isn't there where it doesn't
  at_first : (turns place : ℕ) (entry : K × V) → length entries - (turns + 1) ≡ place → slice_get entries place ≡ Some entry
      → stays entry ≡ true → turned stays (turns + 1) entries ≡ entry ∷ around place
  at_first turns place entry next is stay = rw (next, cut_before place entries entry is, stay) refl

  nowhere : (turns place : ℕ) (entry : K × V) → length entries - (turns + 1) ≡ place → slice_get entries place ≡ Some entry
      → stays entry ≡ false → turned stays (turns + 1) entries ≡ around place
  nowhere turns place entry next is goes = rw (next, cut_before place entries entry is, goes) refl

  pub begins : turned stays 0 entries ≡ entries
  begins = rw (drop_all (length entries - 0) entries (omega arith)) (take_all (length entries - 0) entries (omega arith))

  pub ends : turned stays (length entries) entries ≡ filter stays entries
  ends = let none : length entries - length entries ≡ 0 = omega arith in rw none (append-nil (filter stays entries))

  pub shows : (turns : ℕ) → turns < length entries
      → last_of (turned stays turns entries) ≡ slice_get entries (length entries - turns - 1)
  shows turns within = let place : ℕ = length entries - turns - 1 in let there = there_is place entries (omega arith) in
      ap last_of (at_last turns place there.0 (omega arith) there.1) ∙ (last_of_push (around place) there.0).0 ∙ sym there.1

  pub gone : (turns : ℕ) (entry : K × V) → turns < length entries → slice_get entries (length entries - turns - 1) ≡ Some entry
      → stays entry ≡ false → without_last (turned stays turns entries) ≡ turned stays (turns + 1) entries
  gone turns entry within is goes = let place : ℕ = length entries - turns - 1 in
      ap without_last (at_last turns place entry (omega arith) is) ∙ (last_of_push (around place) entry).1
      ∙ sym (nowhere turns place entry (omega arith) is goes)

module _ {K V : Type 0} (eq : K → K → Bool) (laws : IsEquivalence eq) (stays : K × V → Bool) (entries : List (K × V)) where
  -- no other entry has the key of the one at the place: neither one behind it, nor one before it
  apart_behind : (place : ℕ) (key : K) → IsDistinct eq (keys_of entries) → slice_get (keys_of entries) place ≡ Some key
      → list_any (eq key) (keys_of (filter stays (drop (suc place) entries))) ≡ false
  apart_behind place key distinct is = none_stays stays (eq key) (drop (suc place) entries)
      (rw (keys_drop (suc place) entries) (apart_from_last eq place (keys_of entries) key distinct is))

  apart_before : (place : ℕ) (key : K) → IsDistinct eq (keys_of entries) → slice_get (keys_of entries) place ≡ Some key
      → list_any (eq key) (keys_of (take place entries)) ≡ false
  apart_before place key distinct is = rw (keys_take place entries)
      (apart_from_first eq laws place place (keys_of entries) key distinct is (omega arith))

  apart_around : (place : ℕ) (key : K) → IsDistinct eq (keys_of entries) → slice_get (keys_of entries) place ≡ Some key
      → list_any (eq key) (keys_of (around stays entries place)) ≡ false
  apart_around place key distinct is = let stood = filter stays (drop (suc place) entries) in let to_come = take place entries in
      rw (
        map-append (λ (e : K × V). e.0) stood to_come,
        list_any-append (eq key) (keys_of stood) (keys_of to_come),
        apart_behind place key distinct is,
        apart_before place key distinct is,
      ) refl

  pub kept : (turns : ℕ) (entry : K × V) → IsDistinct eq (keys_of entries) → turns < length entries
      → slice_get entries (length entries - turns - 1) ≡ Some entry → stays entry ≡ true
      → looked eq (turned stays turns entries) entry.0 ≡ turned stays (turns + 1) entries
  kept turns entry distinct within is stay = let place : ℕ = length entries - turns - 1 in
      let key_is = slice_get-map (λ (e : K × V). e.0) entries place ∙ ap (option_map (λ e. e.0)) is in
      let apart = apart_around place entry.0 distinct key_is in
      let found = last_found (eq entry.0) (around stays entries place) entry apart (laws.refl entry.0) in
      ap (λ es. looked eq es entry.0) (at_last stays entries turns place entry (omega arith) is)
      ∙ rw (found.0, found.1) refl
      ∙ sym (at_first stays entries turns place entry (omega arith) is stay)
