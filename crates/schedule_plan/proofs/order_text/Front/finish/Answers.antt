-- What is left to show of `Front::finish`.
use Rattle.std.proofs.Common.{arith}
use Rattle.schedule_plan.proofs.OrderFront.{front_is_order}
use Rattle.schedule_plan.proofs.order_text.Front.finish.Goals as goal

pub of_variables-requires : goal.of_variables-requires
of_variables-requires c = (front_is_order c.self.invariant (omega (arith, c.if-len-vars.false, c.len.ensures))).0

pub returns-clause-order : goal.returns-clause-order
returns-clause-order c = rw (c.of_variables.ensures, ← c.self.view_is)
    (front_is_order c.self.invariant (omega (arith, c.if-len-vars.false, c.len.ensures)))
