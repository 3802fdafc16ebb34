-- What is left to show of `push_ending`.
use Rattle.std.proofs.Common.{◌≡◌, ℕ, ◌+◌, ◌-◌, ◌<◌, ◌∷◌, [], ◌++◌, List, ap, sym, ◌∙◌, append_assoc, arith}
use Rattle.std.specs.Prelude.{map}
use Rattle.std.proofs.lemmas.List.{map-append}
use Rattle.cnf_base.specs.Order.{natural}
use Rattle.schedule_plan.specs.declared.plan.Move.{Move}
use Rattle.schedule_plan.specs.declared.plan.Move.TheVariants.{Exists}
use Rattle.workload.specs.declared.square.Domino.{Domino}
use Rattle.workload.specs.declared.square.Domino.TheVariants.{Across, Down}
use Rattle.workload.specs.Board.{square, is_domino, dominoes_of, number}
use Rattle.workload.proofs.Steps.{passing_next}
use Rattle.workload.proofs.columns.push_ending.Goals as goal

-- one more domino of a column
one_more : (n row : ℕ) (at : ℕ → Domino) (base old new : List Move) → 0 < row → old ≡ base
    ++ map Exists (map (number n) (dominoes_of n (map at (natural (row - 1)))))
    → new ≡ old ++ map Exists (map (number n) (dominoes_of n (at row ∷ []))) → new ≡ base
    ++ map Exists (map (number n) (dominoes_of n (map at (natural (row + 1 - 1)))))
one_more n row at base old new positive is more =
    let before : List Domino = dominoes_of n (map at (natural (row - 1))) in
    let next : List Domino = dominoes_of n (at row ∷ []) in
    more ∙ ap (λ (l : List Move). l ++ map Exists (map (number n) next)) is
    ∙ append_assoc base (map Exists (map (number n) before)) (map Exists (map (number n) next))
    ∙ ap (λ (l : List Move). base ++ l) (sym (map-append Exists (map (number n) before) (map (number n) next))
    ∙ ap (map Exists) (sym (map-append (number n) before next))
    ∙ ap (λ l. map Exists (map (number n) l)) (sym (passing_next (is_domino n) at row positive)))

pub loop-row-preserved : goal.loop-row-preserved
loop-row-preserved c =
    one_more c.args.n c.loop-row.row (λ row. Across (square row (c.args.column - 1))) c.args.moves.now.items c.loop-row.moves.items
    c.push_exists.new.moves.items
    (omega arith) c.loop-row.invariant c.in_ok-push_exists.ensures

pub loop-row-2-preserved : goal.loop-row-2-preserved
loop-row-2-preserved c =
    one_more c.args.n c.loop-row-2.row (λ row. Down (square row c.args.column)) c.loop-row.moves.items c.loop-row-2.moves.items
    c.push_exists-in-loop-row-2.new.moves.items
    (omega arith) c.loop-row-2.invariant c.in_ok-push_exists-2.ensures

pub returns : goal.returns
returns c =
    let n : ℕ = c.args.n in
    let lefts : List Domino = dominoes_of n (map (λ row. Across (square row (c.args.column - 1))) (natural n)) in
    let downs : List Domino = dominoes_of n (map (λ row. Down (square row c.args.column)) (natural n)) in
    let first : c.loop-row.row - 1 ≡ n = omega arith in
    let second : c.loop-row-2.row - 1 ≡ n = omega arith in
    c.loop-row-2.invariant ∙ ap (λ (k : ℕ). c.loop-row.moves.items
    ++ map Exists (map (number n) (dominoes_of n (map (λ row. Down (square row c.args.column)) (natural k))))) second
    ∙ ap (λ (l : List Move). l ++ map Exists (map (number n) downs)) (c.loop-row.invariant
    ∙ ap (λ (k : ℕ). c.args.moves.now.items
    ++ map Exists (map (number n) (dominoes_of n (map (λ row. Across (square row (c.args.column - 1))) (natural k))))) first)
    ∙ append_assoc c.args.moves.now.items (map Exists (map (number n) lefts)) (map Exists (map (number n) downs))
    ∙ ap (λ (l : List Move). c.args.moves.now.items ++ l) (sym (map-append Exists (map (number n) lefts) (map (number n) downs))
    ∙ ap (map Exists) (sym (map-append (number n) lefts downs)))
