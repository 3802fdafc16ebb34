-- The lists keep the numbers of the clauses that stand.
use Rattle.std.proofs.Common.{length}
use Rattle.drat_checker.proofs.Indexed.{indexed-left}
use Rattle.drat_checker.proofs.database.Database.leave.Goals as goal

pub invariant_of-self : goal.invariant_of-self
invariant_of-self c = indexed-left c.self.invariant c.leave_literals.ensures.kept (c.leave_literals.ensures.rising (length c.self.inside.store))
    c.leave.ensures.kept c.leave_short.ensures
