-- The clause of a number is one of the clauses of a square, among whose numbers it stands.
use Rattle.std.proofs.Common.{◌≡◌, ℕ, zero, suc, ◌+◌, ◌-◌, ◌<◌, ◌≤◌, true, false, ◌||◌, cond, ℤ, pos, neg_ℤ, nat_abs, ◌⊎◌, List, [], ◌∷◌}
use Rattle.std.proofs.Common.{◌++◌, length, refl, sym, ◌∙◌, ap, subst, arith, inl, inr, eq-eqb}
use Rattle.std.specs.Prelude.{map, ◌==◌, slice_index_or}
use Rattle.std.specs.List.{flat_map, list_any}
use Rattle.std.proofs.lemmas.Bool.{cases_eq, cases_lt, or_cases}
use Rattle.std.proofs.lemmas.List.{append-nil, get_or_append_left, get_or-append-add}
use Rattle.std.proofs.lemmas.List.Folds.{list_any-append}
use Rattle.std.proofs.lemmas.Grind.{flat_map-append}
use Rattle.cnf_base.specs.Order.{natural}
use Rattle.schedule_plan.specs.Plan.{clause_has, clause_of_number}
use Rattle.workload.specs.declared.square.Square.{Square}
use Rattle.workload.specs.Board.{square, stays, front_of_row, row_squares, numbers, one_of, not_both, no_two_of, square_clauses}
use Rattle.workload.specs.Board.{board_clauses, board_formula}
use Rattle.workload.specs.Schedule.{following, squares_before, clause_count, clause_numbers}
use Rattle.workload.proofs.Standing.{standing}
use Rattle.workload.proofs.Numbers.{cut_squares}
use Rattle.workload.proofs.Clauses.{is_following}
use Rattle.workload.proofs.Cursors.{more_before, same_before, first_before}

pub record StandsAtSquare (n i : ℕ) : Type 0 where
  pub row : ℕ
  pub column : ℕ
  pub stays : stays n (square row column) ≡ true
  pub counted : 0 < standing i (clause_numbers n (square row column))
  pub one_of_its : (x : ℕ) → clause_has x (clause_of_number (board_formula n) i) ≡ true → 0 < standing x (numbers n (square row column))

-- the numbers that follow one stand among them
standing_following : (i start count : ℕ) → start < i → i ≤ start + count → 0 < standing i (following start count)
standing_following i start zero a b = absurd (omega (arith, a, b))
standing_following i start (suc count) a b =
    elim (cases_eq (suc start) i) [
      | inl same ↦ omega (arith, ap {B = ℕ} (λ b. cond b 1 0) (eq-eqb (suc start) i same))
      | inr differ ↦ omega (arith, standing_following i (suc start) count (omega (arith, a, differ)) (omega (arith, b)))
    ]

-- a variable that stands in a clause on some variables is one of them
abs_neg : (v : ℕ) → nat_abs (neg_ℤ (pos v)) ≡ v
abs_neg zero = refl
abs_neg (suc v) = refl

standing_tail : (x v : ℕ) (vs : List ℕ) → 0 < standing x vs → 0 < standing x (v ∷ vs)
standing_tail x v vs there = omega (arith, there)

standing_head : (x v : ℕ) (vs : List ℕ) → (v == x) ≡ true → 0 < standing x (v ∷ vs)
standing_head x v vs same = omega (arith, ap {B = ℕ} (λ b. cond b 1 0) same)

in_one_of : (x : ℕ) (vs : List ℕ) → clause_has x (one_of vs) ≡ true → 0 < standing x vs
in_one_of x [] has = absurd cc
in_one_of x (v ∷ vs) has =
    elim (or_cases (v == x) (clause_has x (one_of vs)) has) [
      | inl same ↦ standing_head x v vs same
      | inr later ↦ standing_tail x v vs (in_one_of x vs later)
    ]

in_not_both : (x v w : ℕ) → clause_has x (not_both v w) ≡ true → ((v == x) ≡ true) ⊎ ((w == x) ≡ true)
in_not_both x v w has =
    elim (or_cases (nat_abs (neg_ℤ (pos v)) == x) ((nat_abs (neg_ℤ (pos w)) == x) || false) has) [
      | inl one ↦ inl (ap (λ (k : ℕ). k == x) (sym (abs_neg v)) ∙ one)
      | inr more ↦ elim (or_cases (nat_abs (neg_ℤ (pos w)) == x) false more) [
        | inl other ↦ inr (ap (λ (k : ℕ). k == x) (sym (abs_neg w)) ∙ other)
        | inr none ↦ absurd cc
      ]
    ]

in_not_both_of : (x v : ℕ) (vs : List ℕ) → list_any (clause_has x) (map (not_both v) vs) ≡ true → 0 < standing x (v ∷ vs)
in_not_both_of x v [] has = absurd cc
in_not_both_of x v (w ∷ vs) has =
    elim (or_cases (clause_has x (not_both v w)) (list_any (clause_has x) (map (not_both v) vs)) has) [
      | inl own ↦ elim (in_not_both x v w own) [
        | inl one ↦ standing_head x v (w ∷ vs) one
        | inr other ↦ standing_tail x v (w ∷ vs) (standing_head x w vs other)
      ]
      | inr later ↦ omega (arith, in_not_both_of x v vs later)
    ]

in_no_two_of : (x : ℕ) (vs : List ℕ) → list_any (clause_has x) (no_two_of vs) ≡ true → 0 < standing x vs
in_no_two_of x [] has = absurd cc
in_no_two_of x (v ∷ vs) has =
    elim (or_cases (list_any (clause_has x) (map (not_both v) vs)) (list_any (clause_has x) (no_two_of vs))
    (sym (list_any-append (clause_has x) (map (not_both v) vs) (no_two_of vs)) ∙ has)) [
      | inl first ↦ in_not_both_of x v vs first
      | inr later ↦ standing_tail x v vs (in_no_two_of x vs later)
    ]

in_some : (x : ℕ) (clauses : List (List ℤ)) (k : ℕ) → clause_has x (slice_index_or clauses k []) ≡ true → list_any (clause_has x) clauses
    ≡ true
in_some x [] k has = absurd cc
in_some x (c ∷ clauses) zero has = ap (λ b. b || list_any (clause_has x) clauses) has
in_some x (c ∷ clauses) (suc k) has =
    elim (clause_has x c) as (λ b. (b || list_any (clause_has x) clauses) ≡ true) [
      | true ↦ refl
      | false ↦ in_some x clauses k has
    ]

in_square : (n x : ℕ) (s : Square) → list_any (clause_has x) (square_clauses n s) ≡ true → 0 < standing x (numbers n s)
unfolding square_clauses
in_square n x s has =
    elim (or_cases (clause_has x (one_of (numbers n s))) (list_any (clause_has x) (no_two_of (numbers n s))) has) [
      | inl one ↦ in_one_of x (numbers n s) one
      | inr other ↦ in_no_two_of x (numbers n s) other
    ]

-- what stands in the middle part of a list
middle : (front own rest : List (List ℤ)) (k : ℕ) → length front ≤ k → k < length front + length own
    → slice_index_or (front ++ (own ++ rest)) k [] ≡ slice_index_or own (k - length front) []
middle front own rest k a b =
    let place : k ≡ length front + (k - length front) = omega (arith, a) in
    ap (λ (j : ℕ). slice_index_or (front ++ (own ++ rest)) j []) place
    ∙ get_or-append-add front (own ++ rest) (k - length front) []
    ∙ get_or_append_left own rest [] (k - length front) (omega (arith, a, b))

-- the clause of a number stands at a square, where the number lies behind the clauses before it
record Within (n i row column : ℕ) : Type 0 where
  pub stays : stays n (square row column) ≡ true
  pub behind : clause_count n (squares_before n (square row column)) < i
  pub ahead : i ≤ clause_count n (squares_before n (square row column)) + length (square_clauses n (square row column))

of_square : (n i row column : ℕ) → Within n i row column
    → clause_of_number (board_formula n) i ≡ slice_index_or (square_clauses n (square row column))
    (i - 1 - clause_count n (squares_before n (square row column))) []
of_square n i row column w =
    let s : Square = square row column in
    let piece = cut_squares n row column w.stays in
    let earlier : List Square = squares_before n s in
    ap (λ l. slice_index_or (flat_map (square_clauses n) l) (i - 1) []) piece.parts
    ∙ ap (λ l. slice_index_or l (i - 1) []) (flat_map-append (square_clauses n) earlier (s ∷ piece.more))
    ∙ middle (flat_map (square_clauses n) earlier) (square_clauses n s) (flat_map (square_clauses n) piece.more) (i - 1)
    (omega (arith, w.behind)) (omega (arith, w.behind, w.ahead))

at_square : (n i row column : ℕ) → Within n i row column → StandsAtSquare n i
at_square n i row column w =
    let s : Square = square row column in
    let start : ℕ = clause_count n (squares_before n s) in
    record {
      row = row;
      column = column;
      stays = w.stays;
      counted = subst (λ l. 0 < standing i l) (is_following n s start (length (square_clauses n s)) refl refl)
          (standing_following i start (length (square_clauses n s)) w.behind w.ahead);
      one_of_its = λ x has. in_square n x s (in_some x (square_clauses n s) (i - 1 - start)
          (ap (clause_has x) (sym (of_square n i row column w)) ∙ has));
    }

-- along a row, and along the rows
along_row : (n i row k : ℕ) → clause_count n (squares_before n (square row 1)) < i → i
    ≤ clause_count n (squares_before n (square row (k + 1))) → StandsAtSquare n i
along_row n i row zero a b = absurd (omega (arith, a, b))
along_row n i row (suc k) a b =
    let here : Square = square row (suc k) in
    let step : k + 1 ≡ suc k = omega arith in
    elim (cases_lt (clause_count n (squares_before n here)) i) [
      | inl late ↦ elim (stays n here) as (λ there. stays n here ≡ there → StandsAtSquare n i) [
        | true ↦ λ there. at_square n i row (suc k) (record {
          stays = there;
          behind = late;
          ahead = omega (arith, b, more_before n row (suc k) (omega arith) there);
        })
        | false ↦ λ out. absurd (omega (arith, b, late, same_before n row (suc k) (omega arith) out))
      ] refl
      | inr early ↦ along_row n i row k a (subst (λ (c : ℕ). i ≤ clause_count n (squares_before n (square row c))) (sym step) early)
    ]

abbrev above : ℕ → ℕ → ℕ
above n row = clause_count n (flat_map (row_squares n) (natural row))

above_next : (n k : ℕ) → above n (suc k) ≡ clause_count n (squares_before n (square (suc k) (n + 1)))
above_next n k =
    let less : suc k - 1 ≡ k = omega arith in
    let whole : n + 1 - 1 ≡ n = omega arith in
    ap (clause_count n) (flat_map-append (row_squares n) (natural k) (suc k ∷ [])
    ∙ ap (λ l. flat_map (row_squares n) (natural k) ++ l) (append-nil (row_squares n (suc k))))
    ∙ (λ i. clause_count n (flat_map (row_squares n) (natural (sym less i)) ++ front_of_row n (suc k) (sym whole i)))

along_rows : (n i k : ℕ) → 0 < i → i ≤ above n k → StandsAtSquare n i
along_rows n i zero a b = absurd (omega (arith, a, b))
along_rows n i (suc k) a b =
    let less : suc k - 1 ≡ k = omega arith in
    elim (cases_lt (above n k) i) [
      | inl late ↦ along_row n i (suc k) n (omega (arith, late, first_before n (suc k), ap (above n) less))
          (omega (arith, b, above_next n k))
      | inr early ↦ along_rows n i k a early
    ]

pub clause_stands : (n i : ℕ) → 0 < i → i ≤ length (board_clauses n) → StandsAtSquare n i
clause_stands n i a b = along_rows n i n a b
