-- What is left to show of `Front::put`.
use Rattle.schedule_plan.proofs.OrderFront.{further, one_more}
use Rattle.schedule_plan.proofs.order_text.Front.put.Goals as goal

pub invariant_of-self-2 : goal.invariant_of-self-2
invariant_of-self-2 c =
    let good = rw (← c.self.view_is) at c.requires in
    rw (c.in_ok-push.ensures.items) (one_more good c.in_ok-reach.ensures.ok
    (further c.reach.new.seen.items c.reach.ensures.same c.self.invariant))
