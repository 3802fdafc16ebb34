-- What is left to show of `first_cursor`.
use Rattle.std.proofs.Common.{◌≡◌, ℕ, ◌+◌, ◌-◌, ◌≤◌, List, length, get_or, ap, sym, ◌∙◌, subst, arith, inl, inr, length-append}
use Rattle.std.specs.Prelude.{slice_set}
use Rattle.std.specs.List.{flat_map}
use Rattle.std.proofs.lemmas.Bool.{cases_eq}
use Rattle.std.proofs.lemmas.List.{length-set, get_or-set_same, get_or-set_other}
use Rattle.std.proofs.lemmas.Grind.{flat_map-append}
use Rattle.cnf_base.specs.Order.{natural}
use Rattle.workload.specs.Board.{square, row_squares, square_clauses}
use Rattle.workload.specs.Schedule.{squares_before, clause_count}
use Rattle.workload.proofs.Steps.{flat_next}
use Rattle.workload.proofs.Cursors.{first_before}
use Rattle.workload.proofs.cursor.first_cursor.Goals as goal

pub loop-row-preserved : goal.loop-row-preserved
loop-row-preserved c =
    let n : ℕ = c.args.n in
    let row : ℕ = c.loop-row.row in
    let old : List ℕ = c.loop-row.cursor in
    let new : List ℕ = slice_set old row c.loop-row.count in
    let own : get_or new row 0 ≡ c.loop-row.count = get_or-set_same old row c.loop-row.count 0 (omega (arith, c.loop-row.invariant.rows)) in
    let other = λ (r : ℕ) (differ : r ≡ row → ⊥). get_or-set_other old row r c.loop-row.count 0 differ in
    let rows : clause_count n (flat_map (row_squares n) (natural (row + 1 - 1)))
    ≡ clause_count n (flat_map (row_squares n) (natural (row - 1))) + clause_count n (row_squares n row) =
    ap (clause_count n) (flat_next (row_squares n) row (omega arith))
    ∙ ap length (flat_map-append (square_clauses n) (flat_map (row_squares n) (natural (row - 1))) (row_squares n row))
    ∙ length-append (flat_map (square_clauses n) (flat_map (row_squares n) (natural (row - 1))))
    (flat_map (square_clauses n) (row_squares n row)) in
    record {
      rows = length-set old row c.loop-row.count ∙ c.loop-row.invariant.rows;
      count = omega (arith, rows, c.loop-row.invariant.count, c.clauses_in_row-count.ensures.value);
      few = omega (arith, c.loop-row.invariant.few, c.clauses_in_row-count.ensures.range);
      small = λ r a b. elim (cases_eq r row) [
        | inl same ↦ subst (λ (k : ℕ). get_or new k 0 ≤ 70000) (sym same) (omega (arith, own, c.loop-row.invariant.few))
        | inr differ ↦ omega (arith, other r differ, c.loop-row.invariant.small r a (omega (arith, b, differ)))
      ];
      done = λ r a b. elim (cases_eq r row) [
        | inl same ↦ subst (λ (k : ℕ). get_or new k 0 ≡ clause_count n (squares_before n (square k 1))) (sym same) (own
            ∙ c.loop-row.invariant.count ∙ sym (first_before n row))
        | inr differ ↦ other r differ ∙ c.loop-row.invariant.done r a (omega (arith, b, differ))
      ];
    }

pub returns : goal.returns
returns c = record {
  rows = c.loop-row.invariant.rows;
  few = λ r a b. omega (arith, c.loop-row.invariant.small r a (omega arith));
  right = λ r a b. c.loop-row.invariant.done r a (omega arith);
}
