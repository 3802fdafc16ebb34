-- The list of the key rises still, and the others are the same.
use Rattle.std.proofs.Common.{rules}
use Rattle.drat_checker.proofs.number_lists.NumberLists.leave_list.Goals as goal

pub returns-in-Some-clause-rising : goal.returns-in-Some-clause-rising
returns-in-Some-clause-rising c = λ most.
    let after = c.leave.ensures.rising most in
    search (rules, after)
