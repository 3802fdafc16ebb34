-- The others are the same.
use Rattle.std.proofs.Common.{rules}
use Rattle.drat_checker.proofs.Rising.{are-none}
use Rattle.drat_checker.proofs.number_lists.NumberLists.leave.Goals as goal

pub returns-then-leave_list-clause-rising : goal.returns-then-leave_list-clause-rising
returns-then-leave_list-clause-rising c = λ most.
    let before = c.leave_list.ensures.rising most in
    search (rules, before, are-none most)
