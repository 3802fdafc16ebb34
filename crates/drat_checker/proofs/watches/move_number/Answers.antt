-- The number leaves one list and enters the other.
use Rattle.drat_checker.proofs.Lifts.{on-ok}
use Rattle.drat_checker.proofs.Visited.{moved-over}
use Rattle.drat_checker.proofs.watches.move_number.Goals as goal

pub returns : goal.returns
returns c =
    on-ok c.enter_if.result (λ entered.
    moved-over c.args.lists.now c.take-out.new.self c.give.new.self c.args.others.now c.enter_if.new.lists c.args.literal c.args.number
    c.take-out.result c.forget-moves.new.self c.forget-moves.result c.take-out.ensures.list c.take-out.ensures.others
    c.in_ok-give.ensures.list c.in_ok-give.ensures.others c.forget-moves.ensures.kept c.forget-moves.ensures.none c.enter_if.ensures.kept
    entered) c.enter_if.ensures.entered
