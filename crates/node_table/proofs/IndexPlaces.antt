-- Places from a home on: one is free while not all are taken, a key that is met stays so when a free place is taken, and
-- the key that takes the first free place is met.
use Rattle.std.proofs.Common.{◌≡◌, ◌≢◌, ℕ, zero, suc, ◌+◌, ◌-◌, ◌<◌, ◌≤◌, List, [], ◌∷◌, length, get_or, set, cond, count_by, refl, sym}
use Rattle.std.proofs.Common.{subst, ap, ◌∙◌, inl, inr, arith}
use Rattle.std.proofs.lemmas.Bool.{cases_lt, lt-ltb, le-ltb}
use Rattle.std.proofs.lemmas.List.{get_or-set_same, get_or-set_other, length-set}
use Rattle.std.proofs.lemmas.List.Sums.{sum_by-cons, sum_by-set}
use Rattle.node_table.specs.Index.{place_at, is_taken, AreTaken, IsFirstFree, IsMet}

free_among : (places : List ℕ) → count_by is_taken places < length places → (at : ℕ) × (at < length places) × (get_or places at 0 ≡ 0)
free_among [] h = absurd (omega (arith, h))
free_among (zero ∷ rest) h = (0, omega arith, refl)
free_among (suc n ∷ rest) h =
    let later = free_among rest (omega (
      arith,
      h,
      sum_by-cons (λ p. cond (is_taken p) 1 0) (suc n) rest,
      ap {B = ℕ} (λ b. cond b 1 0) (lt-ltb 0 (suc n) (omega arith)),
    )) in
    (suc later.0, omega (arith, later.1), later.2)

straight_on : (size home steps : ℕ) → home + steps < size → place_at size home steps ≡ home + steps
straight_on size home steps h = ap (λ b. cond b (home + steps) (home + steps - size)) (lt-ltb (home + steps) size h)

from_the_start : (size home steps : ℕ) → size ≤ home + steps → place_at size home steps ≡ home + steps - size
from_the_start size home steps h = ap (λ b. cond b (home + steps) (home + steps - size)) (le-ltb (home + steps) size h)

-- each place is some steps on from the home
way_to : (size home at : ℕ) → home < size → at < size → (steps : ℕ) × (steps < size) × (place_at size home steps ≡ at)
way_to size home at h a =
    elim (cases_lt at home) [
      | inl lt ↦
          let past : size ≤ home + (at + size - home) = omega arith in
          let there : home + (at + size - home) - size ≡ at = omega arith in
          (at + size - home, omega arith, from_the_start size home (at + size - home) past ∙ there)
      | inr le ↦
          let there : home + (at - home) ≡ at = omega arith in
          (at - home, omega arith, straight_on size home (at - home) (omega arith) ∙ there)
    ]

-- not each place was seen to be taken
pub not_all_taken : (places : List ℕ) (home steps : ℕ) → home < length places → count_by is_taken places < length places → length places
    ≤ steps → AreTaken places home steps → ⊥
not_all_taken places home steps h room all taken =
    let free = free_among places room in
    let way = way_to (length places) home free.0 h free.1 in
    let positive : 0 < get_or places free.0 0 = subst (λ (at : ℕ). 0 < get_or places at 0) way.2 (taken way.0 (omega (arith, way.1))) in
    omega (arith, positive, free.2)

module _ (places wide : List ℕ) (place value : ℕ) (written : wide ≡ set places place value) where
  as_long : length wide ≡ length places
  as_long = ap length written ∙ length-set places place value

  -- a taken place keeps its key
  still_there : (home steps : ℕ) → get_or places place 0 ≡ 0 → 0 < get_or places (place_at (length places) home steps) 0
      → get_or wide (place_at (length wide) home steps) 0 ≡ get_or places (place_at (length places) home steps) 0
  still_there home steps free taken =
      let at = place_at (length places) home steps in
      let differs : at ≢ place = λ same. omega (arith, free, subst (λ (n : ℕ). 0 < get_or places n 0) same taken) in
      ap (λ (size : ℕ). get_or wide (place_at size home steps) 0) as_long ∙ ap (λ (xs : List ℕ). get_or xs at 0) written
      ∙ get_or-set_other places place at value 0 differs

  still_taken : (home steps : ℕ) → get_or places place 0 ≡ 0 → AreTaken places home steps → AreTaken wide home steps
  still_taken home steps free taken before h = subst (λ (n : ℕ). 0
      < n) (sym (still_there home before free (taken before h))) (taken before h)

  pub still_met : (home key : ℕ) → get_or places place 0 ≡ 0 → IsMet places home key → IsMet wide home key
  still_met home key free met =
      let positive : 0 < get_or places (place_at (length places) home met.steps) 0 = subst (λ (n : ℕ). 0
      < n) (sym met.there) (omega arith) in
      record {
        steps = met.steps;
        few_steps = omega (arith, as_long, met.few_steps);
        there = still_there home met.steps free positive ∙ met.there;
        before = still_taken home met.steps free met.before;
      }

-- the key that takes the first free place is met
pub newly_met : (places wide : List ℕ) (home place key : ℕ) → wide ≡ set places place (key + 1) → IsFirstFree places home place
    → IsMet wide home key
newly_met places wide home place key written first =
    record {
      steps = first.steps;
      few_steps = omega (arith, as_long places wide place (key + 1) written, first.few_steps);
      there = ap (λ (size : ℕ). get_or wide (place_at size home first.steps) 0) (as_long places wide place (key + 1) written)
          ∙ ap (λ (at : ℕ). get_or wide at 0) first.there ∙ ap (λ (xs : List ℕ). get_or xs place 0) written
          ∙ get_or-set_same places place (key + 1) 0 first.within;
      before = still_taken places wide place (key + 1) written home first.steps first.free first.before;
    }

-- one place more is taken
pub one_more_taken : (places wide : List ℕ) (home place key : ℕ) → wide ≡ set places place (key + 1) → IsFirstFree places home place
    → count_by is_taken wide ≡ count_by is_taken places + 1
one_more_taken places wide home place key written first =
    let more = sum_by-set (λ p. cond (is_taken p) 1 0) places place (key + 1) 0 first.within in
    let count : ℕ → ℕ = λ n. cond (is_taken n) 1 0 in
    let was_free : count (get_or places place 0) ≡ 0 = ap count first.free in
    let now_taken : count (key + 1) ≡ 1 = ap {B = ℕ} (λ b. cond b 1 0) (lt-ltb 0 (key + 1) (omega arith)) in
    let all : count_by is_taken wide ≡ count_by is_taken (set places place (key + 1)) = ap (count_by is_taken) written in
    omega (arith, more, was_free, now_taken, all)
