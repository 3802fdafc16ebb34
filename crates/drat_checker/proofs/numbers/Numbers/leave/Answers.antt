-- What stays rises still.
use Rattle.std.proofs.Common.{sym, subst}
use Rattle.drat_checker.specs.Numbers.{AreRising}
use Rattle.drat_checker.proofs.numbers.Numbers.leave.Goals as goal
use Rattle.drat_checker.proofs.numbers.Numbers.leave.Goals.{then-self-len, else-self-len}

pub returns-clause-rising : goal.returns-clause-rising
returns-clause-rising c = λ most r.
    let own : AreRising most c.self.inside.numbers.items = subst (AreRising most) (sym c.self.view_is) r in
    elim c.if-self-len.branch [
      | then-self-len w ↦ rw w.self-inside-is (w.keep_standing.ensures.rising most own)
      | else-self-len w ↦ rw w.self-inside-is own
    ]
