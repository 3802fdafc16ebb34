-- What is left to show of `push_clauses`.
use Rattle.std.proofs.Common.{◌≡◌, ℕ, ◌+◌, ◌-◌, ◌*◌, ◌≤◌, ◌++◌, List, ap, sym, ◌∙◌, append_assoc, subst, get_or, arith}
use Rattle.std.specs.Prelude.{map}
use Rattle.std.specs.List.{filter, flat_map}
use Rattle.std.proofs.lemmas.List.{map-append}
use Rattle.cnf_base.specs.Order.{natural}
use Rattle.schedule_plan.specs.declared.plan.Move.{Move}
use Rattle.schedule_plan.specs.declared.plan.Move.TheVariants.{Push}
use Rattle.workload.specs.declared.square.Square.{Square}
use Rattle.workload.specs.Board.{square, stays}
use Rattle.workload.specs.Schedule.{following, clause_numbers}
use Rattle.workload.specs.Cursor.{StandsWithin}
use Rattle.workload.proofs.Steps.{passed, skipped}
use Rattle.workload.proofs.Cursors.{ends, goes_on, stays_out}
use Rattle.workload.proofs.Clauses.{is_following}
use Rattle.workload.proofs.columns.push_clauses.Goals as goal
use Rattle.workload.proofs.columns.push_clauses.Goals.{then-stays+in_ok-push_following, else-stays}

pub push_following-requires : goal.push_following-requires
push_following-requires c =
    let few : get_or c.loop-row.cursor c.loop-row.row 0 ≤ 70000 + 7
    * (c.args.column + 1) = c.loop-row.invariant.cursor.few c.loop-row.row (omega arith) (omega arith) in
    omega (arith, few, c.clause_count-count.ensures.range, c.requires.column.1)

pub overflow_add-cursor : goal.overflow_add-cursor
overflow_add-cursor c =
    let few : get_or c.loop-row.cursor c.loop-row.row 0 ≤ 70000 + 7
    * (c.args.column + 1) = c.loop-row.invariant.cursor.few c.loop-row.row (omega arith) (omega arith) in
    omega (arith, few, c.clause_count-count.ensures.range, c.requires.column.1)

pub loop-row-preserved : goal.loop-row-preserved
loop-row-preserved c =
    let n : ℕ = c.args.n in
    let row : ℕ = c.loop-row.row in
    let s : Square = square row c.args.column in
    let at : ℕ → Square = λ r. square r c.args.column in
    let old : List ℕ = flat_map (clause_numbers n) (filter (stays n) (map at (natural (row - 1)))) in
    let w = c.loop-row.invariant.cursor in
    elim c.if-stays.branch [
      | then-stays+in_ok-push_following b ↦
          let there = sym c.stays.ensures ∙ b.if-stays.true in
          let own : following (get_or c.loop-row.cursor row 0) b.clause_count-count.result ≡ clause_numbers n s =
          is_following n s (get_or c.loop-row.cursor row 0) b.clause_count-count.result
          (w.below row (omega arith) (omega arith) (omega arith)) b.clause_count-count.ensures.value in
          record {
            moves = ap (λ v. v.items) b.moves-is ∙ b.in_ok-push_following.ensures
                ∙ ap (λ (l : List ℕ). c.loop-row.moves.items ++ map Push l) own
                ∙ ap (λ (l : List Move). l ++ map Push (clause_numbers n s)) c.loop-row.invariant.moves
                ∙ append_assoc c.args.moves.now.items (map Push old) (map Push (clause_numbers n s))
                ∙ ap (λ (l : List Move). c.args.moves.now.items ++ l) (sym (map-append Push old (clause_numbers n s))
                ∙ ap (map Push) (sym (passed (clause_numbers n) (stays n) at row (omega arith) there)));
            cursor = subst (StandsWithin n (row + 1) c.args.column) (sym b.cursor-is)
                (goes_on n row c.args.column c.loop-row.cursor b.clause_count-count.result c.requires.most (omega arith)
                (omega arith) c.requires.column.0 there b.clause_count-count.ensures.value b.clause_count-count.ensures.range w);
          }
      | else-stays b ↦
          let out = sym c.stays.ensures ∙ b.if-stays.false in
          record {
            moves = ap (λ v. v.items) b.moves-is ∙ c.loop-row.invariant.moves
                ∙ ap (λ (l : List ℕ). c.args.moves.now.items ++ map Push l)
                (sym (skipped (clause_numbers n) (stays n) at row (omega arith) out));
            cursor = subst (StandsWithin n (row + 1) c.args.column) (sym b.cursor-is)
                (stays_out n row c.args.column c.loop-row.cursor (omega arith) (omega arith) c.requires.column.0 out w);
          }
    ]

pub returns-clause-cursor : goal.returns-clause-cursor
returns-clause-cursor c = ends c.args.n c.loop-row.row c.args.column c.loop-row.cursor (omega arith) c.loop-row.invariant.cursor
