-- What a look-up finds after another call.
use Rattle.std.proofs.Common.{◌≡◌, ℕ, zero, suc, ◌+◌, ◌-◌, ◌≤◌, Bool, true, false, ◌||◌, List, [], ◌∷◌, cond, length, take, option_map}
use Rattle.std.proofs.Common.{nat_lt, Some, None, refl, sym, ap, ◌∙◌, arith}
use Rattle.std.specs.Prelude.{IsTrue, IsFalse}
use Rattle.std.specs.Cmp.{IsEquivalence}
use Rattle.std.specs.List.{list_any}
use Rattle.std.specs.Map.{keys_of, lookup, lookup_entry, remove_entry}
use Rattle.std.specs.Option.{option_map_or}
use Rattle.std.proofs.lemmas.Map.Steps.{list_any_congr}
use Rattle.op_cache.specs.Cache.{looked, with_pair, kept}
use Rattle.op_cache.specs.Laws.{is_among, AreInFront}
use Rattle.op_cache.proofs.Entries.{one_found, value_of_entry, pair_by, kept_by}
use Rattle.op_cache.proofs.Front.{stands_in_front}
use borrow.Author.Tests.{ltb-false}

module _ {K : Type 0} (eq : K → K → Bool) (laws : IsEquivalence eq) where
  -- equal keys are apart from the same keys
  apart_from : (key other : K) → eq key other ≡ false → (stored : K) → eq key stored ≡ true → eq other stored ≡ false
  apart_from key other apart stored equal = laws.symm other stored ∙ sym (laws.congr key stored other equal) ∙ apart

module _ {K V : Type 0} where
  -- an entry that another key doesn't find is taken out
  without_apart : (test other : K → Bool) (entries : List (K × V)) → ((key : K) → test key ≡ true → other key ≡ false)
      → lookup other (remove_entry test entries) ≡ lookup other entries
  without_apart test other [] apart = refl
  without_apart test other (e ∷ entries) apart = (elim (test e.0) as (λ b. test e.0 ≡ b
      → lookup other (cond b entries (e ∷ remove_entry test entries)) ≡ lookup other (e ∷ entries)) [
        | true ↦ λ t. let differ = apart e.0 t in rw differ
        | false ↦ λ t. ap (cond (other e.0) (Some e.1)) (without_apart test other entries apart)
      ]) refl

  -- what is found among the first ones is found with fewer behind them
  in_front_found : (test : K → Bool) (n m : ℕ) (entries : List (K × V)) → list_any test (take n (keys_of entries)) ≡ true → n ≤ m
      → lookup test (take m entries) ≡ lookup test entries
  in_front_found test zero m entries is few = cc
  in_front_found test (suc n) m [] is few = cc
  in_front_found test (suc n) zero (e ∷ entries) is few = absurd (omega arith)
  in_front_found test (suc n) (suc m) (e ∷ entries) is few = (elim (test e.0) as (λ b. (b || list_any test (take n (keys_of entries)))
      ≡ true
      → cond b (Some e.1) (lookup test (take m entries)) ≡ cond b (Some e.1) (lookup test entries)) [
        | true ↦ λ is. refl
        | false ↦ λ is. in_front_found test n m entries is (omega arith)
      ]) is

module _ {K V : Type 0} (eq : K → K → Bool) (laws : IsEquivalence eq) where
  first_found : (entries : List (K × V)) (key other : K) (found : K × V) (value : V) → eq key other ≡ false
      → lookup_entry (eq key) entries ≡ Some found
      → lookup (eq other) ((found.0, value) ∷ remove_entry (eq key) entries) ≡ lookup (eq other) entries
  first_found entries key other found value apart is = let differ = apart_from eq laws key other apart found.0
      (one_found (eq key) entries found is).0 in
      rw differ (without_apart (eq key) (eq other) entries (apart_from eq laws key other apart))

  pub looked_values : (entries : List (K × V)) (key other : K) → lookup (eq other) (looked eq entries key) ≡ lookup (eq other) entries
  looked_values entries key other = (elim (lookup_entry (eq key) entries) as (λ o. lookup_entry (eq key) entries ≡ o
      → lookup (eq other) (option_map_or (λ found. found ∷ remove_entry (eq key) entries) o entries) ≡ lookup (eq other) entries) [
        | None ↦ λ is. refl
        | Some found ↦ λ is. (elim (eq key other) as (λ b. eq key other ≡ b
            → lookup (eq other) (found ∷ remove_entry (eq key) entries) ≡ lookup (eq other) entries) [
              | true ↦ λ equal. let alike : eq key ≡ eq other = λ i k. laws.congr key other k equal i in
                  let here : eq other found.0 ≡ true = sym (laws.congr key other found.0 equal) ∙ (one_found (eq key) entries found is).0 in
                  rw here (sym (ap (option_map (λ e. e.1)) is) ∙ value_of_entry (eq key) entries ∙ ap (λ test. lookup test entries) alike)
              | false ↦ λ apart. first_found entries key other found found.1 apart is
            ]) refl
      ]) refl

  pub kept_again_values : (entries : List (K × V)) (keys : List K) (capacity : ℕ) (key : K) (value : V) (other : K)
      → AreInFront eq entries keys → IsTrue (is_among eq keys key)
      → IsFalse (eq key other) → lookup (eq other) (kept eq capacity entries key value).0 ≡ lookup (eq other) entries
  kept_again_values entries keys capacity key value other front among apart = let found = stands_in_front eq entries keys key front among in
      rw found.1 (first_found entries key other found.0 value apart found.1)

  new_values : (entries : List (K × V)) (keys : List K) (capacity : ℕ) (key : K) (value : V) (other : K) → AreInFront eq entries keys
      → eq key other ≡ false
      → list_any (eq other) keys ≡ true → length keys + 1 ≤ capacity
      → lookup (eq other) (with_pair eq capacity entries key value).0 ≡ lookup (eq other) entries
  new_values entries keys capacity key value other front apart among few = let differ : eq other key ≡ false = laws.symm other key
      ∙ apart in
      (elim (nat_lt (length entries) capacity) as (λ t. nat_lt (length entries) capacity ≡ t
      → lookup (eq other) (pair_by entries key value t).0 ≡ lookup (eq other) entries) [
        | true ↦ λ is. rw differ
        | false ↦ λ is. let full : capacity ≤ length entries = ltb-false (length entries) capacity is in
            rw differ (in_front_found (eq other) (length keys) (length entries - 1) entries (front.first other ∙ among) (omega arith))
      ]) refl

  pub kept_more_values : (entries : List (K × V)) (keys : List K) (capacity : ℕ) (key : K) (value : V) (other : K)
      → AreInFront eq entries keys → IsFalse (is_among eq keys key)
      → IsTrue (is_among eq keys other) → length keys + 1 ≤ capacity
      → lookup (eq other) (kept eq capacity entries key value).0 ≡ lookup (eq other) entries
  kept_more_values entries keys capacity key value other front outside among few =
      let apart : eq key other ≡ false = (elim (eq key other) as (λ b. eq key other ≡ b → b ≡ false) [
        | true ↦ λ equal. let same = list_any_congr laws key other keys equal in cc
        | false ↦ λ e. refl
      ]) refl in
      (elim (lookup_entry (eq key) entries) as (λ o. lookup_entry (eq key) entries ≡ o
      → lookup (eq other) (kept_by eq capacity entries key value o).0 ≡ lookup (eq other) entries) [
        | None ↦ λ is. new_values entries keys capacity key value other front apart among few
        | Some found ↦ λ is. first_found entries key other found value apart is
      ]) refl
