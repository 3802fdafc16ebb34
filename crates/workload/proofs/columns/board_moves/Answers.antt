-- What is left to show of `board_moves`.
use Rattle.std.proofs.Common.{◌≡◌, ℕ, ◌-◌, ◌++◌, List, ap, sym, ◌∙◌, append_assoc, arith}
use Rattle.std.specs.Prelude.{map, replicate}
use Rattle.std.specs.List.{flat_map}
use Rattle.std.proofs.lemmas.Grind.{flat_map-append}
use Rattle.cnf_base.specs.Order.{natural}
use Rattle.schedule_plan.specs.declared.plan.Move.{Move}
use Rattle.schedule_plan.specs.declared.plan.Move.TheVariants.{Push, And, Exists}
use Rattle.workload.specs.Schedule.{column_clauses, ending, terms_in_column, conjoining, quantifying, column_commands, moves_of}
use Rattle.workload.proofs.Steps.{flat_next, conjoining_moves, quantifying_moves}
use Rattle.workload.proofs.columns.board_moves.Goals as goal

pub loop-column-preserved : goal.loop-column-preserved
loop-column-preserved c =
    let n : ℕ = c.args.n in
    let column : ℕ = c.loop-column.column in
    let old : List Move = flat_map moves_of (flat_map (column_commands n) (natural (column - 1))) in
    let pushes : List Move = map Push (column_clauses n column) in
    let ands : List Move = replicate (terms_in_column n column - 1) And in
    let ends : List Move = map Exists (ending n column) in
    let commands : flat_map moves_of (column_commands n column) ≡ pushes ++ (ands ++ ends) =
    ap (λ (l : List Move). pushes ++ l) (flat_map-append moves_of (conjoining (terms_in_column n column)) (quantifying (ending n column))
    ∙ ap (λ (l : List Move). l ++ flat_map moves_of (quantifying (ending n column))) (conjoining_moves (terms_in_column n column))
    ∙ ap (λ (l : List Move). ands ++ l) (quantifying_moves (ending n column))) in
    record {
      moves = c.in_ok-push_ending.ensures ∙ ap (λ (l : List Move). l ++ ends) (c.in_ok-push_ands.ensures
          ∙ ap (λ (k : ℕ). c.push_clauses.new.moves.items ++ replicate (k - 1) And) c.terms_in_column.ensures.value
          ∙ ap (λ (l : List Move). l ++ ands) (c.in_ok-push_clauses.ensures.moves
          ∙ ap (λ (l : List Move). l ++ pushes) c.loop-column.invariant.moves))
          ∙ append_assoc (old ++ pushes) ands ends ∙ append_assoc old pushes (ands ++ ends)
          ∙ ap (λ (l : List Move). old ++ l) (sym commands)
          ∙ sym (ap (flat_map moves_of) (flat_next (column_commands n) column (omega arith))
          ∙ flat_map-append moves_of (flat_map (column_commands n) (natural (column - 1))) (column_commands n column));
      cursor = c.in_ok-push_clauses.ensures.cursor;
    }
