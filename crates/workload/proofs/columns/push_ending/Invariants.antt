-- What the loops of `push_ending` keep.
use Rattle.std.proofs.Common.{◌≡◌, ◌-◌, ◌++◌}
use Rattle.std.specs.Prelude.{map}
use Rattle.schedule_plan.specs.declared.plan.Move.TheVariants.{Exists}
use Rattle.cnf_base.specs.Order.{natural}
use Rattle.workload.specs.declared.square.Domino.TheVariants.{Across, Down}
use Rattle.workload.specs.Board.{square, dominoes_of, number}
use Rattle.workload.proofs.columns.push_ending.Given as goal

abbrev pub invariant-loop-row : goal.invariant-loop-row
invariant-loop-row l =
    l.moves.items ≡ l.fn.moves.items
    ++ map Exists (map (number l.n) (dominoes_of l.n (map (λ row. Across (square row (l.column - 1))) (natural (l.row - 1)))))

abbrev pub invariant-loop-row-2 : goal.invariant-loop-row-2
invariant-loop-row-2 l =
    l.moves.items ≡ l.initial.moves.items
    ++ map Exists (map (number l.n) (dominoes_of l.n (map (λ row. Down (square row l.column)) (natural (l.row - 1)))))
