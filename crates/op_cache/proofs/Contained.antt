-- Which entries there are after a call, and what `keep` hands back.
use Rattle.std.proofs.Common.{◌≡◌, ℕ, zero, suc, ◌-◌, ◌<◌, ◌≤◌, Bool, true, false, ◌⊎◌, ◌↔◌, List, [], ◌∷◌, cond, Contains, length, take}
use Rattle.std.proofs.Common.{slice_get, option_map, nat_lt, Option, Some, None, refl, sym, ap, ◌∙◌, subst, inl, inr, arith}
use Rattle.std.specs.Prelude.{IsTrue}
use Rattle.std.specs.Cmp.{IsEquivalence}
use Rattle.std.specs.List.{IsDistinct}
use Rattle.std.specs.Map.{keys_of, lookup, lookup_entry, remove_entry}
use Rattle.std.specs.Option.{option_map_or}
use Rattle.std.proofs.lemmas.List.{length-take}
use Rattle.std.proofs.lemmas.Map.Views.{lookup-from_Contains}
use Rattle.lru.proofs.CallerLemmas.{Contains-take, Contains-remove_entry, Contains-promoted}
use Rattle.lru.proofs.Splits.{Contains-head, Contains-tail, Contains-cons, Contains-nil}
use Rattle.op_cache.specs.Cache.{looked, with_pair, kept, without_last, last_of}
use Rattle.op_cache.proofs.Entries.{one_found, value_of_entry, length_removed, pair_by, kept_by}
use Rattle.op_cache.proofs.Front.{no_entry}
use borrow.Author.Tests.{ltb-true, ltb-false}

-- an element is the last one or one before it
last_or_front : {X : Type 0} (n : ℕ) (xs : List X) (x : X) → suc n ≡ length xs → Contains xs x
    → Contains (take n xs) x ⊎ (slice_get xs n ≡ Some x)
last_or_front n [] x long is = absurd (Contains-nil x is)
last_or_front zero (y ∷ xs) x long is = elim (Contains-cons y xs x is) [
  | inl same ↦ inr (ap Some same)
  | inr there ↦ let within = there.1 in absurd (omega arith)
]
last_or_front (suc n) (y ∷ xs) x long is = elim (Contains-cons y xs x is) [
  | inl same ↦ inl (subst (Contains (y ∷ take n xs)) same (Contains-head y (take n xs)))
  | inr there ↦ elim (last_or_front n xs x (omega arith) there) [
    | inl front ↦ inl (Contains-tail y (take n xs) x front)
    | inr last ↦ inr last
  ]
]

module _ {K V : Type 0} where
  -- an entry is the one that a look-up finds or one of the others
  found_or_other : (test : K → Bool) (entries : List (K × V)) (found entry : K × V) → lookup_entry test entries ≡ Some found
      → Contains entries entry
      → (found ≡ entry) ⊎ Contains (remove_entry test entries) entry
  found_or_other test [] found entry is there = absurd (Contains-nil entry there)
  found_or_other test (e ∷ entries) found entry is there = (elim (test e.0) as (λ b. test e.0 ≡ b
      → (found ≡ entry) ⊎ Contains (cond b entries (e ∷ remove_entry test entries)) entry) [
        | true ↦ λ t. let is' = rw t at is in let here : found ≡ e = cc in
            elim (Contains-cons e entries entry there) [ inl same ↦ inl (here ∙ same) | inr behind ↦ inr behind ]
        | false ↦ λ t. elim (Contains-cons e entries entry there) [
          | inl same ↦ inr (subst (Contains (e ∷ remove_entry test entries)) same (Contains-head e (remove_entry test entries)))
          | inr behind ↦ elim (found_or_other test entries found entry (rw t at is) behind) [
            | inl same ↦ inl same
            | inr other ↦ inr
                (Contains-tail e (remove_entry test entries) entry other)
          ]
        ]
      ]) refl

  pub looked_same : (eq : K → K → Bool) (entries : List (K × V)) (key : K) (entry : K × V)
      → Contains (looked eq entries key) entry ↔ Contains entries entry
  looked_same eq entries key entry = (
    Contains-promoted (eq key) entries entry,
    (elim (lookup_entry (eq key) entries) as (λ o. lookup_entry (eq key) entries ≡ o
        → Contains entries entry → Contains (option_map_or (λ found. found ∷ remove_entry (eq key) entries) o entries) entry) [
          | None ↦ λ is there. there
          | Some found ↦ λ is there. elim (found_or_other (eq key) entries found entry is there) [
            | inl same ↦ subst (Contains (found ∷ remove_entry (eq key) entries)) same
                (Contains-head found (remove_entry (eq key) entries))
            | inr other ↦ Contains-tail found (remove_entry (eq key) entries) entry other
          ]
        ]) refl,
  )

  pub looked_as_many : (eq : K → K → Bool) (entries : List (K × V)) (key : K) → length (looked eq entries key) ≡ length entries
  looked_as_many eq entries key = (elim (lookup_entry (eq key) entries) as (λ o. lookup_entry (eq key) entries ≡ o
      → length (option_map_or (λ found. found ∷ remove_entry (eq key) entries) o entries) ≡ length entries) [
        | None ↦ λ is. refl
        | Some found ↦ λ is. let one_less = length_removed (eq key) entries found is in omega arith
      ]) refl

  pub finds : (eq : K → K → Bool) → IsEquivalence eq → (entries : List (K × V)) (key stored : K) (value : V)
      → IsDistinct eq (keys_of entries) → Contains entries (stored, value)
      → IsTrue (eq key stored) → lookup (eq key) entries ≡ Some value
  finds eq laws entries key stored value distinct is equal =
      let alike : eq key ≡ eq stored = λ i other. laws.congr key stored other equal i in
      ap (λ test. lookup test entries) alike ∙ lookup-from_Contains laws stored value entries distinct is

module _ {K V : Type 0} (eq : K → K
    → Bool) (laws : IsEquivalence eq) (entries : List (K × V)) (capacity : ℕ) (key : K) (value : V) (entry : K × V) where
  abbrev IsOf : Type 0
  IsOf = Contains entries entry ⊎ ((entry.1 ≡ value) × IsTrue (eq key entry.0))

  -- the first one is kept, and those behind it were there
  of_first : (stored : K) (rest : List (K × V)) → eq key stored ≡ true → (Contains rest entry → Contains entries entry)
      → Contains ((stored, value) ∷ rest) entry → IsOf
  of_first stored rest equal behind is = elim (Contains-cons (stored, value) rest entry is) [
    | inl same ↦ inr (sym (ap (λ p. p.1) same), subst (λ k. eq key k ≡ true) (ap (λ p. p.0) same) equal)
    | inr there ↦ inl (behind there)
  ]

  of_new : Contains (with_pair eq capacity entries key value).0 entry → IsOf
  of_new = elim (nat_lt (length entries) capacity) as (λ t. Contains (pair_by entries key value t).0 entry → IsOf) [
    | true ↦ of_first key entries (laws.refl key) (λ there. there)
    | false ↦ of_first key (without_last entries) (laws.refl key) (Contains-take (length entries - 1) entries entry)
  ]

  pub contained : Contains (kept eq capacity entries key value).0 entry → IsOf
  contained = (elim (lookup_entry (eq key) entries) as (λ o. lookup_entry (eq key) entries ≡ o
      → Contains (kept_by eq capacity entries key value o).0 entry → IsOf) [
        | None ↦ λ is. of_new
        | Some found ↦ λ is. of_first found.0 (remove_entry (eq key) entries) (one_found (eq key) entries found is).0
            (Contains-remove_entry (eq key) entries entry)
      ]) refl

  abbrev IsLeft : List (K × V) × Option (K × V) → Type 0
  IsLeft after = Contains after.0 entry ⊎ IsTrue (eq key entry.0) ⊎ (after.1 ≡ Some entry)

  left_of_new : Contains entries entry → IsLeft (with_pair eq capacity entries key value)
  left_of_new there = elim (nat_lt (length entries) capacity) as (λ t. IsLeft (pair_by entries key value t)) [
    | true ↦ inl (Contains-tail (key, value) entries entry there)
    | false ↦ let within = there.1 in elim (last_or_front (length entries - 1) entries entry (omega arith) there) [
      | inl front ↦ inl (Contains-tail (key, value) (without_last entries) entry front)
      | inr last ↦ inr (inr last)
    ]
  ]

  pub others : Contains entries entry → IsLeft (kept eq capacity entries key value)
  others there = (elim (lookup_entry (eq key) entries) as (λ o. lookup_entry (eq key) entries ≡ o
      → IsLeft (kept_by eq capacity entries key value o)) [
        | None ↦ λ is. left_of_new there
        | Some found ↦ λ is. elim (found_or_other (eq key) entries found entry is there) [
          | inl same ↦ inr (inl (subst (λ (e : K × V). eq key e.0 ≡ true) same (one_found (eq key) entries found is).0))
          | inr other ↦ inl (Contains-tail (found.0, value) (remove_entry (eq key) entries) entry other)
        ]
      ]) refl

module _ {K V : Type 0} (eq : K → K → Bool) (entries : List (K × V)) (capacity : ℕ) (key : K) (value : V) where
  more_of_new : length entries ≤ length (with_pair eq capacity entries key value).0
  more_of_new = elim (nat_lt (length entries) capacity) as (λ t. length entries ≤ length (pair_by entries key value t).0) [
    | true ↦ omega arith
    | false ↦ let now = length-take (length entries - 1) entries in omega arith
  ]

  pub no_fewer : length entries ≤ length (kept eq capacity entries key value).0
  no_fewer = (elim (lookup_entry (eq key) entries) as (λ o. lookup_entry (eq key) entries ≡ o
      → length entries ≤ length (kept_by eq capacity entries key value o).0) [
        | None ↦ λ is. more_of_new
        | Some found ↦ λ is. let one_less = length_removed (eq key) entries found is in omega arith
      ]) refl

  pub replaced : (old : V) → lookup (eq key) entries ≡ Some old → (kept eq capacity entries key value).1 ≡ Some (key, old)
  replaced old is = (elim (lookup_entry (eq key) entries) as (λ o. option_map (λ e. e.1) o ≡ Some old
      → (kept_by eq capacity entries key value o).1 ≡ Some (key, old)) [
        | None ↦ λ none. cc
        | Some found ↦ λ same. ap (option_map (λ v. (key, v))) same
      ]) (value_of_entry (eq key) entries ∙ is)

  pub added : lookup (eq key) entries ≡ None → length entries < capacity
      → kept eq capacity entries key value ≡ ((key, value) ∷ entries, None)
  added none room = let is = no_entry eq key entries none in
      rw is ((elim (nat_lt (length entries) capacity) as (λ t. nat_lt (length entries) capacity ≡ t
      → pair_by entries key value t ≡ ((key, value) ∷ entries, None)) [
        | true ↦ λ t. refl
        | false ↦ λ t. let full : capacity ≤ length entries = ltb-false (length entries) capacity t in absurd (omega arith)
      ]) refl)

  pub pushed_out : lookup (eq key) entries ≡ None → capacity ≤ length entries
      → kept eq capacity entries key value ≡ ((key, value) ∷ without_last entries, last_of entries)
  pushed_out none full = let is = no_entry eq key entries none in
      rw is ((elim (nat_lt (length entries) capacity) as (λ t. nat_lt (length entries) capacity ≡ t
      → pair_by entries key value t ≡ ((key, value) ∷ without_last entries, last_of entries)) [
        | true ↦ λ t. let room : length entries < capacity = ltb-true (length entries) capacity t in absurd (omega arith)
        | false ↦ λ t. refl
      ]) refl)
