-- What is left to show of `column_order`.
use Rattle.std.proofs.Common.{ℕ, ◌-◌, ◌++◌, List, ap, sym, ◌∙◌, arith}
use Rattle.std.specs.Prelude.{map}
use Rattle.std.specs.List.{flat_map}
use Rattle.std.proofs.lemmas.List.{map-append}
use Rattle.cnf_base.specs.Order.{natural}
use Rattle.workload.specs.Board.{number, column_dominoes}
use Rattle.workload.proofs.Steps.{flat_next}
use Rattle.workload.proofs.columns.column_order.Goals as goal

pub loop-column-preserved : goal.loop-column-preserved
loop-column-preserved c =
    let n : ℕ = c.args.n in
    let column : ℕ = c.loop-column.column in
    c.in_ok-push_column.ensures ∙ ap (λ (l : List ℕ). l ++ map (number n) (column_dominoes n column)) c.loop-column.invariant
    ∙ sym (map-append (number n) (flat_map (column_dominoes n) (natural (column - 1))) (column_dominoes n column))
    ∙ ap (map (number n)) (sym (flat_next (column_dominoes n) column (omega arith)))
