-- Numbers that fall from each to the next, and numbers that all differ: those fall once they were sorted.
use Rattle.std.proofs.Common.{◌≡◌, ℕ, zero, suc, ◌+◌, ◌-◌, ◌<◌, ◌≤◌, false, List, [], ◌∷◌, ◌++◌, length, get_or, reverse, Contains, refl}
use Rattle.std.proofs.Common.{sym, ap, ◌∙◌, subst, arith, inl, inr, eq-eqb, ne_eqb}
use Rattle.std.specs.Prelude.{nat_eq, IsPermutation}
use Rattle.std.specs.List.{All, IsDistinct}
use Rattle.std.specs.List.Sorted.{IsNonDecreasing, IsStrictlyIncreasing}
use Rattle.std.proofs.lemmas.Bool.{cases_eq}
use Rattle.std.proofs.lemmas.List.{get_or_append_left, get_or_default, get_or-reverse, length-append, length-reverse}
use Rattle.std.proofs.lemmas.List.Elements.{All-append, All-from_recursion, Contains-get_or, recursion_from_All}
use Rattle.std.proofs.lemmas.Map.Keys.{IsDistinct-from_apart, IsDistinct-IsPermutation, IsStrictlyIncreasing-from_distinct}
use Rattle.slab.proofs.SlabLemmas.{Contains-cons}
use Rattle.node_table.specs.Stored.{IsFalling}

-- numbers that fall lose at least one from each to the next
pub falls_by : (numbers : List ℕ) → IsFalling numbers → (first more : ℕ) → first + more < length numbers → get_or numbers (first + more) 0
    + more ≤ get_or numbers first 0
falls_by numbers falling first zero within = let same : first + 0 ≡ first = omega arith in omega (arith, ap (λ n. get_or numbers n 0) same)
falls_by numbers falling first (suc more) within =
    let same : first + suc more ≡ first + more + 1 = omega arith in
    let before = falls_by numbers falling first more (omega (arith, within)) in
    let step = falling (first + more) (omega (arith, within)) in
    omega (arith, ap (λ n. get_or numbers n 0) same, before, step)

pub falling_left : (left more : List ℕ) → IsFalling (left ++ more) → IsFalling left
falling_left left more falling k within =
    let step = falling k (omega (arith, within, length-append left more)) in
    omega (arith, step, get_or_append_left left more 0 k (omega (arith, within)), get_or_append_left left more 0 (k + 1) within)

-- so they all differ
pub distinct_falling : (numbers : List ℕ) → IsFalling numbers → IsDistinct nat_eq numbers
distinct_falling numbers falling = IsDistinct-from_apart nat_eq numbers
    (λ i j d less within. ne_eqb (get_or numbers i d) (get_or numbers j d) (λ same.
    let there : i + (j - i) ≡ j = omega (arith, less) in
    let falls = falls_by numbers falling i (j - i) (omega (arith, there, within)) in
    let far : get_or numbers (i + (j - i)) 0 ≡ get_or numbers j 0 = ap (λ n. get_or numbers n 0) there in
    omega (arith, less, same, falls, far, get_or_default numbers i d 0 (omega (arith, less, within)), get_or_default numbers j d 0 within)))

-- numbers that all differ, and others that do, none of them the same
pub distinct_append : (xs ys : List ℕ) → IsDistinct nat_eq xs → IsDistinct nat_eq ys → ((n : ℕ) → Contains xs n → Contains ys n → ⊥)
    → IsDistinct nat_eq (xs ++ ys)
unfolding IsDistinct
distinct_append [] ys one two apart = two
distinct_append (x ∷ xs) ys one two apart =
    let differ : All (λ y. nat_eq x y ≡ false) ys = λ k d within. ne_eqb x (get_or ys k d) (λ same.
    apart x (0, omega arith, refl) (subst (Contains ys) (sym same) (Contains-get_or ys k d within))) in (
      recursion_from_All (λ y. nat_eq x y ≡ false) (xs ++ ys) (All-append (λ y. nat_eq x y
          ≡ false) xs ys (All-from_recursion (λ y. nat_eq x y ≡ false) xs one.0) differ),
      distinct_append xs ys one.1 two (λ n among also. apart n (Contains-cons x n xs among) also),
    )

falling_reversed : (numbers : List ℕ) → IsStrictlyIncreasing numbers → IsFalling (reverse numbers)
falling_reversed numbers rising k within =
    let long = length-reverse numbers in
    let at = length numbers - 1 - (k + 1) in
    let next : at + 1 ≡ length numbers - 1 - k = omega (arith, within, long) in
    omega (
      arith,
      rising at (omega (arith, within, long)),
      get_or-reverse numbers (k + 1) 0 (omega (arith, within, long)),
      get_or-reverse numbers k 0 (omega (arith, within, long)),
      ap (λ n. get_or numbers n 0) next,
    )

same_either_way : (x y : ℕ) → nat_eq x y ≡ nat_eq y x
same_either_way x y = elim (cases_eq x y) [
  | inl same ↦ eq-eqb x y same ∙ sym (eq-eqb y x (sym same))
  | inr differ ↦ ne_eqb x y differ ∙ sym (ne_eqb y x (λ same. differ (sym same)))
]

-- sorted, and then turned round
pub falling_sorted : (numbers sorted turned : List ℕ) → IsDistinct nat_eq numbers → IsPermutation numbers sorted → IsNonDecreasing sorted
    → turned ≡ reverse sorted → IsFalling turned
falling_sorted numbers sorted turned distinct permutation rising is =
    subst IsFalling (sym is) (falling_reversed sorted (IsStrictlyIncreasing-from_distinct sorted rising
    (IsDistinct-IsPermutation nat_eq same_either_way numbers sorted permutation distinct)))
