-- What the loops of `Order::natural` keep.
use Rattle.std.proofs.Common.{◌≡◌}
use Rattle.cnf_base.specs.Order.{natural}
use Rattle.schedule_plan.proofs.order.Order.natural.Given as goal

abbrev pub invariant-loop-i : goal.invariant-loop-i
invariant-loop-i l = l.variables.items ≡ natural l.i
