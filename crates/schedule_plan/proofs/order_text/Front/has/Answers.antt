-- What is left to show of `Front::has`.
use Rattle.std.proofs.Common.{sym, ◌∙◌, arith}
use Rattle.std.proofs.lemmas.Bool.{le-ltb}
use Rattle.schedule_plan.proofs.OrderFront.{behind_flags}
use Rattle.schedule_plan.proofs.order_text.Front.has.Goals as goal

pub returns-else-number-len : goal.returns-else-number-len
returns-else-number-len c =
    let none = behind_flags c.args.number c.self.invariant (omega (arith, c.if-number-len.false, c.len.ensures)) in
    le-ltb c.args.number c.len.result c.if-number-len.false ∙ sym (rw (← c.self.view_is) none)
