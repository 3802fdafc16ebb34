-- The cursor goes from square to square of a column.
use Rattle.std.proofs.Common.{◌≡◌, ℕ, ◌+◌, ◌-◌, ◌*◌, ◌<◌, ◌≤◌, true, false, List, length, get_or, sym, ◌∙◌, ap, subst, arith, inl, inr}
use Rattle.std.proofs.Common.{length-append}
use Rattle.std.specs.Prelude.{slice_set}
use Rattle.std.specs.List.{flat_map}
use Rattle.std.proofs.lemmas.Bool.{cases_eq}
use Rattle.std.proofs.lemmas.List.{length-set, get_or-set_same, get_or-set_other}
use Rattle.std.proofs.lemmas.Grind.{flat_map-append}
use Rattle.cnf_base.specs.Order.{natural}
use Rattle.workload.specs.Board.{square, stays, row_squares, front_of_row, square_clauses}
use Rattle.workload.specs.Schedule.{squares_before, clause_count}
use Rattle.workload.specs.Cursor.{StandsWithin, StandsAt}
use Rattle.workload.proofs.Steps.{passed, skipped}

count_append : (n row column : ℕ) → clause_count n (squares_before n (square row column))
    ≡ clause_count n (flat_map (row_squares n) (natural (row - 1))) + clause_count n (front_of_row n row (column - 1))
count_append n row column =
    ap length (flat_map-append (square_clauses n) (flat_map (row_squares n) (natural (row - 1))) (front_of_row n row (column - 1)))
    ∙ length-append (flat_map (square_clauses n) (flat_map (row_squares n) (natural (row - 1))))
    (flat_map (square_clauses n) (front_of_row n row (column - 1)))

pub more_before : (n row column : ℕ) → 0 < column → stays n (square row column) ≡ true
    → clause_count n (squares_before n (square row (column + 1))) ≡ clause_count n (squares_before n (square row column))
    + length (square_clauses n (square row column))
more_before n row column positive there =
    let at = λ (c : ℕ). square row c in
    let step : clause_count n (front_of_row n row (column + 1 - 1)) ≡ clause_count n (front_of_row n row (column - 1))
    + length (square_clauses n (square row column)) =
    ap length (passed (square_clauses n) (stays n) at column positive there)
    ∙ length-append (flat_map (square_clauses n) (front_of_row n row (column - 1))) (square_clauses n (square row column)) in
    omega (arith, count_append n row (column + 1), count_append n row column, step)

pub same_before : (n row column : ℕ) → 0 < column → stays n (square row column) ≡ false
    → clause_count n (squares_before n (square row (column + 1))) ≡ clause_count n (squares_before n (square row column))
same_before n row column positive out =
    let at = λ (c : ℕ). square row c in
    let step : clause_count n (front_of_row n row (column + 1 - 1)) ≡ clause_count n (front_of_row n row (column - 1)) =
    ap length (skipped (square_clauses n) (stays n) at column positive out) in
    omega (arith, count_append n row (column + 1), count_append n row column, step)

pub ends : (n row column : ℕ) (cursor : List ℕ) → n < row → StandsWithin n row column cursor → StandsAt n (column + 1) cursor
ends n row column cursor past w = record {
  rows = w.rows;
  few = w.few;
  right = λ r a b. w.above r a (omega (arith, b, past));
}

pub goes_on : (n row column : ℕ) (cursor : List ℕ) (count : ℕ) → n ≤ 100 → 0 < row → row ≤ n → 0 < column → stays n (square row column)
    ≡ true → count ≡ length (square_clauses n (square row column)) → count ≤ 7
    → StandsWithin n row column cursor → StandsWithin n (row + 1) column (slice_set cursor row (get_or cursor row 0 + count))
goes_on n row column cursor count small positive inside first there is few w =
    let new : List ℕ = slice_set cursor row (get_or cursor row 0 + count) in
    let room : row < length cursor = omega (arith, w.rows, small, inside) in
    let own : get_or new row 0 ≡ get_or cursor row 0 + count = get_or-set_same cursor row (get_or cursor row 0 + count) 0 room in
    let other = λ (r : ℕ) (differ : r ≡ row → ⊥). get_or-set_other cursor row r (get_or cursor row 0 + count) 0 differ in
    record {
      rows = length-set cursor row (get_or cursor row 0 + count) ∙ w.rows;
      few = λ r a b. elim (cases_eq r row) [
        | inl same ↦ subst (λ (k : ℕ). get_or new k 0 ≤ 70000 + 7
            * (column + 1)) (sym same) (omega (arith, own, few, w.few_below row positive (omega arith) inside))
        | inr differ ↦ omega (arith, other r differ, w.few r a b)
      ];
      few_below = λ r a b c. omega (arith, other r (λ same. omega (arith, same, b)), w.few_below r a (omega (arith, b)) c);
      above = λ r a b. elim (cases_eq r row) [
        | inl same ↦ subst (λ (k : ℕ). get_or new k 0 ≡ clause_count n (squares_before n (square k (column + 1)))) (sym same)
            (omega (arith, own, is, w.below row positive (omega arith) inside, more_before n row column first there))
        | inr differ ↦ other r differ ∙ w.above r a (omega (arith, b, differ))
      ];
      below = λ r a b c. other r (λ same. omega (arith, same, b)) ∙ w.below r a (omega (arith, b)) c;
    }

pub stays_out : (n row column : ℕ) (cursor : List ℕ) → 0 < row → row ≤ n → 0 < column → stays n (square row column) ≡ false
    → StandsWithin n row column cursor → StandsWithin n (row + 1) column cursor
stays_out n row column cursor positive inside first out w = record {
  rows = w.rows;
  few = w.few;
  few_below = λ r a b c. w.few_below r a (omega (arith, b)) c;
  above = λ r a b. elim (cases_eq r row) [
    | inl same ↦ subst (λ (k : ℕ). get_or cursor k 0 ≡ clause_count n (squares_before n (square k (column + 1)))) (sym same)
        (w.below row positive (omega arith) inside ∙ sym (same_before n row column first out))
    | inr differ ↦ w.above r a (omega (arith, b, differ))
  ];
  below = λ r a b c. w.below r a (omega (arith, b)) c;
}

-- before the first column
pub first_before : (n row : ℕ) → clause_count n (squares_before n (square row 1))
    ≡ clause_count n (flat_map (row_squares n) (natural (row - 1)))
first_before n row = omega (arith, count_append n row 1)
