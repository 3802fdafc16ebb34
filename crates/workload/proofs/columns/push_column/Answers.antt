-- What is left to show of `push_column`.
use Rattle.std.proofs.Common.{◌≡◌, ℕ, ◌-◌, ◌∷◌, [], ◌++◌, List, ap, sym, ◌∙◌, append_assoc, arith}
use Rattle.std.specs.Prelude.{map}
use Rattle.std.specs.List.{filter, flat_map}
use Rattle.std.proofs.lemmas.List.{map-append}
use Rattle.cnf_base.specs.Order.{natural}
use Rattle.workload.specs.declared.square.Square.{Square}
use Rattle.workload.specs.declared.square.Domino.TheVariants.{Across, Down}
use Rattle.workload.specs.Board.{square, stays, is_domino, number, dominoes_of, down_first}
use Rattle.workload.proofs.Steps.{passed, skipped, filter_append}
use Rattle.workload.proofs.columns.push_column.Goals as goal
use Rattle.workload.proofs.columns.push_column.Goals.{then-stays+in_ok-push_domino+in_ok-push_domino-2, else-stays}

pub loop-row-preserved : goal.loop-row-preserved
loop-row-preserved c =
    let n : ℕ = c.args.n in
    let s : Square = square c.loop-row.row c.args.column in
    let at : ℕ → Square = λ row. square row c.args.column in
    let before : List ℕ = map (number n) (flat_map (down_first n) (filter (stays n) (map at (natural (c.loop-row.row - 1))))) in
    elim c.if-stays.branch [
      | then-stays+in_ok-push_domino+in_ok-push_domino-2 w ↦
          let both : map (number n) (dominoes_of n (Down s ∷ [])) ++ map (number n) (dominoes_of n (Across s ∷ []))
          ≡ map (number n) (down_first n s) =
          sym (map-append (number n) (dominoes_of n (Down s ∷ [])) (dominoes_of n (Across s ∷ [])))
          ∙ ap (map (number n)) (sym (filter_append (is_domino n) (Down s ∷ []) (Across s ∷ []))) in
          ap (λ v. v.items) w.order-is ∙ w.in_ok-push_domino-2.ensures
          ∙ ap (λ (l : List ℕ). l ++ map (number n) (dominoes_of n (Across s ∷ []))) w.in_ok-push_domino.ensures
          ∙ append_assoc c.loop-row.order.items (map (number n) (dominoes_of n (Down s ∷ [])))
          (map (number n) (dominoes_of n (Across s ∷ [])))
          ∙ ap (λ (l : List ℕ). c.loop-row.order.items ++ l) both
          ∙ ap (λ (l : List ℕ). l ++ map (number n) (down_first n s)) c.loop-row.invariant
          ∙ append_assoc c.args.order.now.items before (map (number n) (down_first n s))
          ∙ ap (λ (l : List ℕ). c.args.order.now.items ++ l) (sym
          (map-append (number n) (flat_map (down_first n) (filter (stays n) (map at (natural (c.loop-row.row - 1))))) (down_first n s))
          ∙ ap (map (number n)) (sym (passed (down_first n) (stays n) at c.loop-row.row (omega arith) (sym c.stays.ensures
          ∙ w.if-stays.true))))
      | else-stays w ↦
          ap (λ v. v.items) w.order-is ∙ c.loop-row.invariant
          ∙ ap (λ (l : List ℕ). c.args.order.now.items ++ l) (ap (map (number n))
          (sym (skipped (down_first n) (stays n) at c.loop-row.row (omega arith) (sym c.stays.ensures ∙ w.if-stays.false))))
    ]
