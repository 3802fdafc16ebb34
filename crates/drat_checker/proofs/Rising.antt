-- Lists of numbers that rise: as a number is put behind the others, as some are left out, and that two of the same numbers are the same.
use Rattle.std.proofs.Common.{◌≡◌, ℕ, zero, suc, ◌+◌, ◌-◌, ◌<◌, ◌≤◌, Bool, true, false, cond, ◌||◌, ◌&&◌, ℤ, List, [], ◌∷◌, ◌++◌, filter, length, get_or}
use Rattle.std.proofs.Common.{inl, inr, refl, sym, ap, ◌∙◌, subst, arith, nat_eq, eq-eqb}
use Rattle.std.proofs.lemmas.Bool.{and_parts, both_ways, cases_eq, cases_lt, false_from_ne_true, or_cases, or_left, or_right}
use Rattle.std.proofs.lemmas.List.Folds.{list_any-append}
use Rattle.std.proofs.lemmas.Map.Views.{any-filter_same, exact_unsigned_eq}
use Rattle.drat_checker.specs.Places.{Places, place_at}
use Rattle.drat_checker.specs.Numbers.{AreRising, IsRising, ends_with, has_number}
use Rattle.drat_checker.specs.Lines.{candidates_from, is_candidate_at}

false-not-true : false ≡ true → ⊥
false-not-true e = cc

or-last : (b : Bool) → (b || false) ≡ true → b ≡ true
or-last true h = refl
or-last false h = h

-- some are left out
pub has-filter : (p : ℕ → Bool) (xs : List ℕ) (y : ℕ) → has_number y (filter p xs) ≡ (p y && has_number y xs)
has-filter p xs y = any-filter_same (nat_eq y) p (p y) (λ m e. ap p (sym (exact_unsigned_eq y m e))) xs

pub in-filter : (p : ℕ → Bool) (xs : List ℕ) (y : ℕ) → has_number y (filter p xs) ≡ true → has_number y xs ≡ true
in-filter p xs y m = (and_parts (p y) (has_number y xs) (sym (has-filter p xs y) ∙ m)).1

pub rising-filter : (p : ℕ → Bool) (xs : List ℕ) → IsRising xs → IsRising (filter p xs)
rising-filter p [] r = tt
rising-filter p (x ∷ xs) r =
    elim (p x) as (λ b. IsRising (cond b (x ∷ filter p xs) (filter p xs))) [
      | true ↦ ((λ y m. r.0 y (in-filter p xs y m)), rising-filter p xs r.1)
      | false ↦ rising-filter p xs r.1
    ]

pub are-filtered : (most : ℕ) (p : ℕ → Bool) (xs : List ℕ) → AreRising most xs → AreRising most (filter p xs)
are-filtered most p xs r = record { rising = rising-filter p xs r.rising; within = λ y m. r.within y (in-filter p xs y m) }

-- the bound is greater
pub are-more : (few most : ℕ) (xs : List ℕ) → few ≤ most → AreRising few xs → AreRising most xs
are-more few most xs le r = record { rising = r.rising; within = λ y m. let low : y ≤ few = r.within y m in omega (arith, low, le) }

pub are-none : (most : ℕ) → AreRising most []
are-none most = record { rising = tt; within = λ y m. absurd (false-not-true m) }

-- a number comes behind lesser ones
rising-push : (n : ℕ) (xs : List ℕ) → IsRising xs → ((y : ℕ) → has_number y xs ≡ true → y < n) → IsRising (xs ++ n ∷ [])
rising-push n [] r below = ((λ y m. absurd (false-not-true m)), tt)
rising-push n (x ∷ xs) r below = (
  (λ y m.
      elim (or_cases (has_number y xs) _ (sym (list_any-append (nat_eq y) xs (n ∷ [])) ∙ m)) [
        | inl earlier ↦ r.0 y earlier
        | inr last ↦
            subst (λ (k : ℕ). x < k) (sym (exact_unsigned_eq y n (or-last (nat_eq y n) last)))
            (below x (or_left _ _ (eq-eqb x x refl)))
      ]),
  rising-push n xs r.1 (λ y m. below y (or_right (nat_eq y x) _ m)),
)

-- where it isn't the last of them, those that aren't greater are lesser
below-last : (n : ℕ) (xs : List ℕ) → IsRising xs → ((y : ℕ) → has_number y xs ≡ true → y ≤ n) → ends_with n xs ≡ false
    → (y : ℕ) → has_number y xs ≡ true → y < n
below-last n [] r within other y m = absurd (false-not-true m)
below-last n (x ∷ []) r within other y m =
    let is : y ≡ x = exact_unsigned_eq y x (or-last (nat_eq y x) m) in
    let le : y ≤ n = within y m in
    elim (cases_eq x n) [
      | inl same ↦ absurd (both_ways (nat_eq x n) other (eq-eqb x n same))
      | inr apart ↦
          let apart' : (y ≡ n → ⊥) = λ e. apart (sym is ∙ e) in
          elim (cases_lt y n) [ inl lt ↦ lt | inr ge ↦ absurd (apart' (omega (arith, le, ge))) ]
    ]
below-last n (x ∷ z ∷ zs) r within other y m =
    let rest : (k : ℕ) → has_number k (z ∷ zs) ≡ true → k < n =
    below-last n (z ∷ zs) r.1 (λ k h. within k (or_right (nat_eq k x) _ h)) other in
    elim (or_cases (nat_eq y x) _ m) [
      | inl here ↦
          let lt : x < z = r.0 z (or_left _ _ (eq-eqb z z refl)) in
          let end : z < n = rest z (or_left _ _ (eq-eqb z z refl)) in
          let is : y ≡ x = exact_unsigned_eq y x here in
          omega (arith, lt, end, is)
      | inr later ↦ rest y later
    ]

-- the last of them
pub ends-at : (xs : List ℕ) (n d : ℕ) → 1 ≤ length xs → ends_with n xs ≡ nat_eq (get_or xs (length xs - 1) d) n
ends-at [] n d some = absurd (omega (arith, some))
ends-at (x ∷ []) n d some = refl
ends-at (x ∷ y ∷ ys) n d some =
    let next : length (x ∷ y ∷ ys) - 1 ≡ suc (length (y ∷ ys) - 1) = omega arith in
    ends-at (y ∷ ys) n d (omega arith) ∙ ap (λ k. nat_eq (get_or (x ∷ y ∷ ys) k d) n) (sym next)

pub are-pushed : (n : ℕ) (xs : List ℕ) → AreRising n xs → ends_with n xs ≡ false → AreRising n (xs ++ n ∷ [])
are-pushed n xs r other = record {
  rising = rising-push n xs r.rising (below-last n xs r.rising r.within other);
  within = λ y m.
      elim (or_cases (has_number y xs) _ (sym (list_any-append (nat_eq y) xs (n ∷ [])) ∙ m)) [
        | inl earlier ↦ r.within y earlier
        | inr last ↦
            let is : y ≡ n = exact_unsigned_eq y n (or-last (nat_eq y n) last) in
            omega (arith, is)
      ];
}

-- two that have the same numbers
not-own : (x : ℕ) (xs : List ℕ) → IsRising (x ∷ xs) → has_number x xs ≡ false
not-own x xs r = false_from_ne_true _ (λ m. let lt : x < x = r.0 x m in absurd (omega (arith, lt)))

heads : (x y : ℕ) (xs ys : List ℕ) → IsRising (x ∷ xs) → IsRising (y ∷ ys)
    → ((n : ℕ) → has_number n (x ∷ xs) ≡ has_number n (y ∷ ys)) → x ≡ y
heads x y xs ys r s same =
    elim (or_cases (nat_eq x y) _ (sym (same x) ∙ or_left _ _ (eq-eqb x x refl))) [
      | inl here ↦ exact_unsigned_eq x y here
      | inr later ↦ elim (or_cases (nat_eq y x) _ (same y ∙ or_left _ _ (eq-eqb y y refl))) [
        | inl here ↦ sym (exact_unsigned_eq y x here)
        | inr too ↦
            let one : y < x = s.0 x later in
            let other : x < y = r.0 y too in
            absurd (omega (arith, one, other))
      ]
    ]

tails : (x : ℕ) (xs ys : List ℕ) → IsRising (x ∷ xs) → IsRising (x ∷ ys)
    → ((n : ℕ) → has_number n (x ∷ xs) ≡ has_number n (x ∷ ys)) → (n : ℕ) → has_number n xs ≡ has_number n ys
tails x xs ys r s same n =
    elim (nat_eq n x) as (λ b. nat_eq n x ≡ b → (b || has_number n xs) ≡ (b || has_number n ys) → has_number n xs ≡ has_number n ys) [
      | true ↦ λ e h.
          let is : n ≡ x = exact_unsigned_eq n x e in
          ap (λ k. has_number k xs) is ∙ not-own x xs r ∙ sym (ap (λ k. has_number k ys) is ∙ not-own x ys s)
      | false ↦ λ e h. h
    ] refl (same n)

pub rising-same : (xs ys : List ℕ) → IsRising xs → IsRising ys → ((n : ℕ) → has_number n xs ≡ has_number n ys) → xs ≡ ys
rising-same [] [] r s same = refl
rising-same [] (y ∷ ys) r s same = absurd (false-not-true (same y ∙ or_left _ _ (eq-eqb y y refl)))
rising-same (x ∷ xs) [] r s same = absurd (false-not-true (sym (same x) ∙ or_left _ _ (eq-eqb x x refl)))
rising-same (x ∷ xs) (y ∷ ys) r s same =
    let head : y ≡ x = sym (heads x y xs ys r s same) in
    let s' : IsRising (x ∷ ys) = subst (λ (k : ℕ). IsRising (k ∷ ys)) head s in
    let same' : (n : ℕ) → has_number n (x ∷ xs) ≡ has_number n (x ∷ ys) = λ n. same n ∙ ap (λ k. has_number n (k ∷ ys)) head in
    ap (λ (l : List ℕ). x ∷ l) (rising-same xs ys r.1 s'.1 (tails x xs ys r s' same')) ∙ ap (λ k. k ∷ ys) (sym head)

-- the candidates among places
module _ (pivot : ℤ) where
  from-least : (first : ℕ) (places : Places) (y : ℕ) → has_number y (candidates_from first pivot places) ≡ true → first ≤ y
  from-least first [] y m = absurd (false-not-true m)
  from-least first (place ∷ places) y m =
      elim (is_candidate_at pivot place)
      as (λ b. has_number y (cond b (first ∷ candidates_from (first + 1) pivot places) (candidates_from (first + 1) pivot places)) ≡ true
      → first ≤ y) [
        | true ↦ λ h. elim (or_cases (nat_eq y first) _ h) [
          | inl here ↦ let is : y ≡ first = exact_unsigned_eq y first here in omega (arith, is)
          | inr later ↦ let le : first + 1 ≤ y = from-least (first + 1) places y later in omega (arith, le)
        ]
        | false ↦ λ h. let le : first + 1 ≤ y = from-least (first + 1) places y h in omega (arith, le)
      ] m

  from-rising : (first : ℕ) (places : Places) → IsRising (candidates_from first pivot places)
  from-rising first [] = tt
  from-rising first (place ∷ places) =
      elim (is_candidate_at pivot place)
      as (λ b. IsRising (cond b (first ∷ candidates_from (first + 1) pivot places) (candidates_from (first + 1) pivot places))) [
        | true ↦ (
          (λ y m. let le : first + 1 ≤ y = from-least (first + 1) places y m in omega (arith, le)),
          from-rising (first + 1) places,
        )
        | false ↦ from-rising (first + 1) places
      ]

  from-has : (first : ℕ) (places : Places) (k : ℕ)
      → has_number (first + k) (candidates_from first pivot places) ≡ is_candidate_at pivot (place_at places k)
  from-has first [] k = refl
  from-has first (place ∷ places) zero =
      let here : first + 0 ≡ first = omega arith in
      ap (λ n. has_number n (candidates_from first pivot (place ∷ places))) here
      ∙ elim (is_candidate_at pivot place)
      as (λ b. has_number first (cond b (first ∷ candidates_from (first + 1) pivot places) (candidates_from (first + 1) pivot places)) ≡ b) [
        | true ↦ or_left _ _ (eq-eqb first first refl)
        | false ↦ false_from_ne_true _ (λ m.
            let le : first + 1 ≤ first = from-least (first + 1) places first m in
            absurd (omega (arith, le)))
      ]
  from-has first (place ∷ places) (suc k) =
      let next : first + suc k ≡ (first + 1) + k = omega arith in
      let later : nat_eq ((first + 1) + k) first ≡ false =
      false_from_ne_true _ (λ e. let is : (first + 1) + k ≡ first = exact_unsigned_eq ((first + 1) + k) first e in absurd (omega (arith, is)))
      in
      ap (λ n. has_number n (candidates_from first pivot (place ∷ places))) next
      ∙ elim (is_candidate_at pivot place)
      as (λ b. has_number ((first + 1) + k)
      (cond b (first ∷ candidates_from (first + 1) pivot places) (candidates_from (first + 1) pivot places))
      ≡ has_number ((first + 1) + k) (candidates_from (first + 1) pivot places)) [
        | true ↦ ap (λ b. b || has_number ((first + 1) + k) (candidates_from (first + 1) pivot places)) later
        | false ↦ refl
      ]
      ∙ from-has (first + 1) places k

  -- those among numbers that rise, where none is missing
  pub all-candidates : (places : Places) (numbers : List ℕ) → IsRising numbers
      → ((k : ℕ) → is_candidate_at pivot (place_at places k) ≡ true → has_number k numbers ≡ true)
      → filter (λ number. is_candidate_at pivot (place_at places number)) numbers ≡ candidates_from 0 pivot places
  all-candidates places numbers rising all =
      let test : ℕ → Bool = λ number. is_candidate_at pivot (place_at places number) in
      rising-same (filter test numbers) (candidates_from 0 pivot places) (rising-filter test numbers rising) (from-rising 0 places) (λ n.
      let whole : 0 + n ≡ n = omega arith in
      has-filter test numbers n
      ∙ elim (test n) as (λ b. test n ≡ b → (b && has_number n numbers) ≡ b) [
        | true ↦ λ e. all n e
        | false ↦ λ e. refl
      ] refl
      ∙ sym (from-has 0 places n) ∙ ap (λ k. has_number k (candidates_from 0 pivot places)) whole)
