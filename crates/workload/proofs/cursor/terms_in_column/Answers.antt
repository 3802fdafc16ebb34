-- What is left to show of `terms_in_column`.
use Rattle.std.proofs.Common.{ℕ, ◌-◌, length, ap, sym, ◌∙◌, arith, length-append}
use Rattle.std.specs.Prelude.{map}
use Rattle.std.specs.List.{filter, flat_map}
use Rattle.cnf_base.specs.Order.{natural}
use Rattle.workload.specs.declared.square.Square.{Square}
use Rattle.workload.specs.Board.{square, stays}
use Rattle.workload.specs.Schedule.{clause_numbers}
use Rattle.workload.proofs.Steps.{passed, skipped}
use Rattle.workload.proofs.Clauses.{length_clause_numbers}
use Rattle.workload.proofs.cursor.terms_in_column.Goals as goal
use Rattle.workload.proofs.cursor.terms_in_column.Goals.{then-stays, else-stays}

pub loop-row-preserved : goal.loop-row-preserved
loop-row-preserved c =
    let n : ℕ = c.args.n in
    let row : ℕ = c.loop-row.row in
    let s : Square = square row c.args.column in
    let at : ℕ → Square = λ r. square r c.args.column in
    elim c.if-stays.branch [
      | then-stays b ↦
          let step = ap length (passed (clause_numbers n) (stays n) at row (omega arith) (sym c.stays.ensures ∙ b.if-stays.true))
          ∙ length-append (flat_map (clause_numbers n) (filter (stays n) (map at (natural (row - 1))))) (clause_numbers n s) in
          record {
            count = omega (
              arith,
              step,
              length_clause_numbers n s,
              b.count-is,
              c.loop-row.invariant.count,
              b.clause_count-count.ensures.value,
            );
            few = omega (arith, b.count-is, c.loop-row.invariant.few, b.clause_count-count.ensures.range);
          }
      | else-stays b ↦
          let step = ap length (skipped (clause_numbers n) (stays n) at row (omega arith) (sym c.stays.ensures ∙ b.if-stays.false)) in
          record {
            count = omega (arith, step, b.count-is, c.loop-row.invariant.count);
            few = omega (arith, b.count-is, c.loop-row.invariant.few);
          }
    ]
