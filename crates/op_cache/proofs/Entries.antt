-- Lists of entries: which keys a test finds, and what is left without the entry that it finds.
use Rattle.std.proofs.Common.{◌≡◌, ℕ, zero, suc, ◌+◌, Bool, true, false, ◌||◌, cond, List, [], ◌∷◌, option_map, length, take, Option, Some}
use Rattle.std.proofs.Common.{None, refl, sym, ap, ◌∙◌, subst, arith}
use Rattle.std.specs.Cmp.{IsEquivalence}
use Rattle.std.specs.List.{IsDistinct, AllByRecursion, list_any}
use Rattle.std.specs.Prelude.{if◌then◌else◌}
use Rattle.std.specs.Map.{keys_of, lookup, lookup_entry, remove_entry}
use Rattle.std.specs.Option.{option_map_or}
use Rattle.op_cache.specs.Cache.{with_value, with_pair, without_last, last_of}

pub neither : (a b : Bool) → (a || b) ≡ false → (a ≡ false) × (b ≡ false)
neither true b h = cc
neither false b h = (refl, h)

module _ {K : Type 0} where
  pub none_passes : (test : K → Bool) (xs : List K) → list_any test xs ≡ false → AllByRecursion (λ x. test x ≡ false) xs
  none_passes test [] h = tt
  none_passes test (x ∷ xs) h = let both = neither (test x) (list_any test xs) h in (both.0, none_passes test xs both.1)

  pub any_none : (test : K → Bool) (xs : List K) → AllByRecursion (λ x. test x ≡ false) xs → list_any test xs ≡ false
  any_none test [] h = refl
  any_none test (x ∷ xs) h = rw (h.0) (any_none test xs h.1)

  pub all_take : (P : K → Type 0) (n : ℕ) (xs : List K) → AllByRecursion P xs → AllByRecursion P (take n xs)
  all_take P zero xs h = tt
  all_take P (suc n) [] h = h
  all_take P (suc n) (x ∷ xs) h = (h.0, all_take P n xs h.1)

  pub distinct_take : (eq : K → K → Bool) (n : ℕ) (xs : List K) → IsDistinct eq xs → IsDistinct eq (take n xs)
  unfolding IsDistinct
  distinct_take eq zero xs h = tt
  distinct_take eq (suc n) [] h = h
  distinct_take eq (suc n) (x ∷ xs) h = (all_take (λ y. eq x y ≡ false) n xs h.0, distinct_take eq n xs h.1)

  pub distinct_more : (eq : K → K → Bool) (x : K) (xs : List K) → list_any (eq x) xs ≡ false → IsDistinct eq xs → IsDistinct eq (x ∷ xs)
  unfolding IsDistinct
  distinct_more eq x xs apart h = (none_passes (eq x) xs apart, h)

  pub none_in_front : (test : K → Bool) (n : ℕ) (xs : List K) → list_any test xs ≡ false → list_any test (take n xs) ≡ false
  none_in_front test n xs h = any_none test (take n xs) (all_take (λ x. test x ≡ false) n xs (none_passes test xs h))

module _ {K V : Type 0} where
  pub keys_take : (n : ℕ) (entries : List (K × V)) → keys_of (take n entries) ≡ take n (keys_of entries)
  keys_take zero entries = refl
  keys_take (suc n) [] = refl
  keys_take (suc n) (e ∷ entries) = ap (λ ks. e.0 ∷ ks) (keys_take n entries)

  module _ (test : K → Bool) where
    -- what both look-ups say
    pub value_of_entry : (entries : List (K × V)) → option_map (λ e. e.1) (lookup_entry test entries) ≡ lookup test entries
    value_of_entry [] = refl
    value_of_entry (e ∷ entries) = elim (test e.0) as (λ b. option_map (λ f. f.1) (cond b (Some e) (lookup_entry test entries))
        ≡ cond b (Some e.1) (lookup test entries)) [
          | true ↦ refl
          | false ↦ value_of_entry entries
        ]

    pub none_found : (entries : List (K × V)) → lookup_entry test entries ≡ None → list_any test (keys_of entries) ≡ false
    none_found [] h = refl
    none_found (e ∷ entries) h = (elim (test e.0) as (λ b. test e.0 ≡ b → (b || list_any test (keys_of entries)) ≡ false) [
      | true ↦ λ t. let h' = rw t at h in cc
      | false ↦ λ t. none_found entries (rw t at h)
    ]) refl

    pub one_found : (entries : List (K × V)) (found : K × V) → lookup_entry test entries ≡ Some found
        → (test found.0 ≡ true) × (list_any test (keys_of entries) ≡ true)
    one_found [] found h = cc
    one_found (e ∷ entries) found h = (elim (test e.0) as (λ b. test e.0 ≡ b
        → (test found.0 ≡ true) × ((b || list_any test (keys_of entries)) ≡ true)) [
          | true ↦ λ t. let h' = rw t at h in let same : e ≡ found = cc in (ap (λ f. test f.0) (sym same) ∙ t, refl)
          | false ↦ λ t. one_found entries found (rw t at h)
        ]) refl

    pub length_removed : (entries : List (K × V)) (found : K × V) → lookup_entry test entries ≡ Some found
        → length (remove_entry test entries) + 1 ≡ length entries
    length_removed [] found h = cc
    length_removed (e ∷ entries) found h = (elim (test e.0) as (λ b. test e.0 ≡ b
        → length (cond b entries (e ∷ remove_entry test entries)) + 1 ≡ length (e ∷ entries)) [
          | true ↦ λ t. omega arith
          | false ↦ λ t. let on = length_removed entries found (rw t at h) in omega arith
        ]) refl

    pub all_removed : (P : K → Type 0) (entries : List (K × V)) → AllByRecursion P (keys_of entries)
        → AllByRecursion P (keys_of (remove_entry test entries))
    all_removed P [] h = tt
    all_removed P (e ∷ entries) h = elim (test e.0) as
        (λ b. AllByRecursion P (keys_of (cond b entries (e ∷ remove_entry test entries)))) [
          | true ↦ h.1
          | false ↦ (h.0, all_removed P entries h.1)
        ]

    pub distinct_removed : (eq : K → K → Bool) (entries : List (K × V)) → IsDistinct eq (keys_of entries)
        → IsDistinct eq (keys_of (remove_entry test entries))
    unfolding IsDistinct
    distinct_removed eq [] h = tt
    distinct_removed eq (e ∷ entries) h = elim (test e.0) as
        (λ b. IsDistinct eq (keys_of (cond b entries (e ∷ remove_entry test entries)))) [
          | true ↦ h.1
          | false ↦ (all_removed (λ y. eq e.0 y ≡ false) entries h.0, distinct_removed eq entries h.1)
        ]

  -- no other entry has the key of the one that is found
  pub found_apart : (eq : K → K → Bool) → IsEquivalence eq → (key : K) (entries : List (K × V)) (found : K × V)
      → IsDistinct eq (keys_of entries)
      → lookup_entry (eq key) entries ≡ Some found → list_any (eq found.0) (keys_of (remove_entry (eq key) entries)) ≡ false
  unfolding IsDistinct
  found_apart eq laws key [] found d h = cc
  found_apart eq laws key (e ∷ entries) found d h = (elim (eq key e.0) as (λ b. eq key e.0 ≡ b
      → list_any (eq found.0) (keys_of (cond b entries (e ∷ remove_entry (eq key) entries))) ≡ false) [
        | true ↦ λ t. let h' = rw t at h in let same : e ≡ found = cc in
            subst (λ (f : K × V). list_any (eq f.0) (keys_of entries) ≡ false) same (any_none (eq e.0) (keys_of entries) d.0)
        | false ↦ λ t. let h' = rw t at h in let is = one_found (eq key) entries found h' in
            let differ : eq found.0 e.0 ≡ false = sym (laws.congr key found.0 e.0 is.0) ∙ t in
            rw differ (found_apart eq laws key entries found d.1 h')
      ]) refl

  -- `kept` by whether there is room, and by what the look-up found
  abbrev pub pair_by : List (K × V) → K → V → Bool → List (K × V) × Option (K × V)
  pair_by entries key value room = if room then ((key, value) ∷ entries, None) else ((key, value) ∷ without_last entries, last_of entries)

  abbrev pub kept_by : (K → K → Bool) → ℕ → List (K × V) → K → V → Option (K × V) → List (K × V) × Option (K × V)
  kept_by eq capacity entries key value o = option_map_or (with_value eq entries key value) o (with_pair eq capacity entries key value)
