-- What is left to show of `Order::natural`.
use Rattle.std.proofs.Common.{refl, sym, subst, add-one}
use Rattle.cnf_base.specs.Order.{IsOrder}
use Rattle.schedule_plan.proofs.Naturals.{natural_is_order}
use Rattle.schedule_plan.proofs.order.Order.natural.Goals as goal

pub invariant_of-result : goal.invariant_of-result
invariant_of-result c = subst IsOrder (sym c.loop-i.invariant) (natural_is_order c.loop-i.i)

pub loop-i-preserved : goal.loop-i-preserved
loop-i-preserved c = rw (c.in_ok-push.ensures.items, add-one, c.loop-i.invariant) refl
