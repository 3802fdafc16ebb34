-- What is left to show of `formula`.
use Rattle.std.proofs.Common.{ℕ, ℤ, ◌-◌, ◌++◌, List, ap, sym, ◌∙◌, arith}
use Rattle.std.specs.List.{flat_map}
use Rattle.std.proofs.lemmas.Grind.{flat_map-append}
use Rattle.cnf_base.specs.Order.{natural}
use Rattle.workload.specs.Board.{square_clauses, row_squares}
use Rattle.workload.proofs.Steps.{flat_next}
use Rattle.workload.proofs.formula.formula.Goals as goal

pub loop-row-preserved : goal.loop-row-preserved
loop-row-preserved c =
    let n : ℕ = c.args.n in
    let row : ℕ = c.loop-row.row in
    let inv = c.loop-row.invariant in
    let is = c.in_ok-push_row.ensures.ok in
    let vars = ap (λ d. d.vars) is in
    record {
      vars = vars ∙ inv.vars;
      clauses = ap (λ d. d.clauses) is ∙ ap (λ (l : List (List ℤ)). l ++ flat_map (square_clauses n) (row_squares n row)) inv.clauses
          ∙ sym (ap (flat_map (square_clauses n)) (flat_next (row_squares n) row (omega arith))
          ∙ flat_map-append (square_clauses n) (flat_map (row_squares n) (natural (row - 1))) (row_squares n row));
      few_vars = omega (arith, vars, inv.few_vars);
      begun = ap (λ d. d.begun) is ∙ inv.begun;
      few = omega (arith, inv.few, c.in_ok-push_row.ensures.few);
    }
