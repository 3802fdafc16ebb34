-- What is left to show of `push_row`.
use Rattle.std.proofs.Common.{◌≡◌, ℕ, ℤ, ◌-◌, ◌++◌, List, length, ap, sym, ◌∙◌, append_assoc, arith}
use Rattle.std.specs.List.{flat_map}
use Rattle.workload.specs.declared.square.Square.{Square}
use Rattle.workload.specs.Board.{square, stays, square_clauses, front_of_row}
use Rattle.workload.proofs.Steps.{passed, skipped}
use Rattle.workload.proofs.formula.push_row.Goals as goal
use Rattle.workload.proofs.formula.push_row.Goals.{then-stays+in_ok-push_square, else-stays}

pub loop-column-preserved : goal.loop-column-preserved
loop-column-preserved c =
    let n : ℕ = c.args.n in
    let column : ℕ = c.loop-column.column in
    let s : Square = square c.args.row column in
    let at : ℕ → Square = λ k. square c.args.row k in
    let old : List (List ℤ) = flat_map (square_clauses n) (front_of_row n c.args.row (column - 1)) in
    let inv = c.loop-column.invariant in
    elim c.if-stays.branch [
      | then-stays+in_ok-push_square b ↦
          let is = b.builder-is ∙ b.in_ok-push_square.ensures.ok in
          record {
            vars = ap (λ d. d.vars) is ∙ inv.vars;
            clauses = ap (λ d. d.clauses) is ∙ ap (λ (l : List (List ℤ)). l ++ square_clauses n s) inv.clauses
                ∙ append_assoc c.args.builder.now.clauses old (square_clauses n s)
                ∙ ap (λ (l : List (List ℤ)). c.args.builder.now.clauses
                ++ l) (sym (passed (square_clauses n) (stays n) at column (omega arith) (sym c.stays.ensures ∙ b.if-stays.true)));
            begun = ap (λ d. d.begun) is ∙ inv.begun;
            few = let new : length c.if-stays.builder.clauses ≡ length b.push_square.new.builder.clauses = ap
                (λ d. length d.clauses) b.builder-is in
                omega (arith, new, inv.few, b.in_ok-push_square.ensures.few);
          }
      | else-stays b ↦ record {
        vars = ap (λ d. d.vars) b.builder-is ∙ inv.vars;
        clauses = ap (λ d. d.clauses) b.builder-is ∙ inv.clauses
            ∙ ap (λ (l : List (List ℤ)). c.args.builder.now.clauses
            ++ l) (sym (skipped (square_clauses n) (stays n) at column (omega arith) (sym c.stays.ensures ∙ b.if-stays.false)));
        begun = ap (λ d. d.begun) b.builder-is ∙ inv.begun;
        few = let new : length c.if-stays.builder.clauses ≡ length c.loop-column.builder.clauses = ap
            (λ d. length d.clauses) b.builder-is in omega (arith, new, inv.few);
      }
    ]
