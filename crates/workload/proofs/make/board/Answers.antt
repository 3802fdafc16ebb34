-- What is left to show of `board`.
use Rattle.std.proofs.Common.{subst, sym, ap, ◌≡◌, List, length, ◌∙◌}
use Rattle.cnf_base.specs.Order.{IsOrder}
use Rattle.cnf_base.specs.Formula.{Formula}
use Rattle.schedule_plan.specs.declared.plan.Move.{Move}
use Rattle.schedule_plan.specs.Plan.{IsAdmissible}
use Rattle.workload.specs.Board.{board_formula, column_order}
use Rattle.workload.specs.Schedule.{board_moves}
use Rattle.workload.proofs.ColumnOrder.{column_order_is_order}
use Rattle.workload.proofs.Fit.{admissible}
use Rattle.workload.proofs.make.board.Goals as goal

pub of_variables-order-requires : goal.of_variables-order-requires
of_variables-order-requires c = subst IsOrder (sym c.in_ok-column_order.ensures) (column_order_is_order c.args.n).0

pub returns-clause-is_order : goal.returns-clause-is_order
returns-clause-is_order c =
    let order : c.of_variables-order.result ≡ column_order c.args.n = c.of_variables-order.ensures ∙ c.in_ok-column_order.ensures in
    let is : IsOrder (column_order c.args.n) × (length (column_order c.args.n)
    ≡ (board_formula c.args.n).vars) = column_order_is_order c.args.n in
    (subst IsOrder (sym order) is.0, ap length order ∙ is.1 ∙ ap (λ (f : Formula). f.vars) (sym c.in_ok-cnf.ensures))

pub returns-clause-admissible : goal.returns-clause-admissible
returns-clause-admissible c =
    let moves : c.of_moves-plan.result ≡ board_moves c.args.n = c.of_moves-plan.ensures ∙ c.in_ok-board_moves.ensures in
    subst (λ (f : Formula). IsAdmissible f c.of_moves-plan.result) (sym c.in_ok-cnf.ensures)
    (subst (λ (m : List Move). IsAdmissible (board_formula c.args.n) m) (sym moves) (admissible c.args.n c.requires.least))
