-- How many clauses a square has.
use Rattle.std.proofs.Common.{◌≡◌, ℕ, zero, suc, ◌+◌, ◌-◌, ◌*◌, ◌/◌, ◌<◌, ◌≤◌, true, false, cond, List, [], ◌∷◌, length, refl, sym, ◌∙◌, ap}
use Rattle.std.proofs.Common.{arith, All}
use Rattle.std.specs.Prelude.{map}
use Rattle.std.proofs.lemmas.List.Elements.{All-cons, All-nil}
use Rattle.workload.specs.declared.square.Square.{Square}
use Rattle.workload.specs.declared.square.Domino.{Domino}
use Rattle.workload.specs.declared.square.Domino.TheVariants.{Across, Down}
use Rattle.workload.specs.Board.{square, is_domino, number, numbers, dominoes, dominoes_of, no_two_of, one_of, square_clauses}
use Rattle.workload.specs.Schedule.{following, squares_before, clause_numbers, clause_count}
use Rattle.workload.proofs.Numbers.{number_within}

few_clauses : (xs : List ℕ) → length xs ≤ 4 → length (one_of xs ∷ no_two_of xs) ≡ 1 + length xs * (length xs - 1) / 2
few_clauses [] a = refl
few_clauses (w ∷ []) a = refl
few_clauses (w ∷ x ∷ []) a = refl
few_clauses (w ∷ x ∷ y ∷ []) a = refl
few_clauses (w ∷ x ∷ y ∷ z ∷ []) a = refl
few_clauses (v ∷ w ∷ x ∷ y ∷ z ∷ more) a = absurd (omega (arith, a))

pub counted : (n : ℕ) (s : Square) (xs : List ℕ) → length xs ≤ 4 → xs ≡ numbers n s → 1 + length xs * (length xs - 1) / 2
    ≡ length (square_clauses n s)
unfolding square_clauses
counted n s xs few is = sym (few_clauses xs few) ∙ ap (λ l. length (one_of l ∷ no_two_of l)) is

-- all numbers of dominoes are variables
pub numbers_within : (n : ℕ) (some : List Domino) → All (λ x. (0 < x) × (x ≤ length (dominoes n))) (map (number n) (dominoes_of n some))
numbers_within n [] = All-nil (λ x. (0 < x) × (x ≤ length (dominoes n)))
numbers_within n (d ∷ more) =
    elim (is_domino n d) as (λ b. is_domino n d ≡ b → All (λ x. (0 < x)
    × (x ≤ length (dominoes n))) (map (number n) (cond b (d ∷ dominoes_of n more) (dominoes_of n more)))) [
      | true ↦ λ is. All-cons (λ x. (0 < x) × (x ≤ length (dominoes n))) (number n d) (map (number n) (dominoes_of n more))
          (number_within n d is) (numbers_within n more)
      | false ↦ λ is. numbers_within n more
    ] refl

pub length_following : (start count : ℕ) → length (following start count) ≡ count
length_following start zero = refl
length_following start (suc count) = ap suc (length_following (suc start) count)

pub length_clause_numbers : (n : ℕ) (s : Square) → length (clause_numbers n s) ≡ length (square_clauses n s)
unfolding clause_numbers
length_clause_numbers n s = length_following (clause_count n (squares_before n s)) (length (square_clauses n s))

pub is_following : (n : ℕ) (s : Square) (start count : ℕ) → start ≡ clause_count n (squares_before n s) → count
    ≡ length (square_clauses n s) → following start count ≡ clause_numbers n s
unfolding clause_numbers
is_following n s start count from size = (λ i. following (from i) (size i))

-- no more numbers than dominoes are looked at
few_passing : (n : ℕ) (some : List Domino) → length (map (number n) (dominoes_of n some)) ≤ length some
few_passing n [] = omega arith
few_passing n (d ∷ more) =
    elim (is_domino n d) as (λ b. length (map (number n) (cond b (d ∷ dominoes_of n more) (dominoes_of n more))) ≤ suc (length more)) [
      | true ↦ omega (arith, few_passing n more)
      | false ↦ omega (arith, few_passing n more)
    ]

pub few_numbers : (n : ℕ) (s : Square) → length (numbers n s) ≤ 4
few_numbers n s = few_passing n (Down (square (s.row - 1) s.column) ∷ Across (square s.row (s.column - 1)) ∷ Across s ∷ Down s ∷ [])
