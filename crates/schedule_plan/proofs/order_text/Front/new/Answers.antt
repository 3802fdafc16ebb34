-- What is left to show of `Front::new`.
use Rattle.schedule_plan.proofs.OrderFront.{no_numbers}
use Rattle.schedule_plan.proofs.order_text.Front.new.Goals as goal

pub invariant_of-result : goal.invariant_of-result
invariant_of-result c = rw (c.new.ensures.items, c.new-2.ensures.items) (no_numbers c.args.vars)
