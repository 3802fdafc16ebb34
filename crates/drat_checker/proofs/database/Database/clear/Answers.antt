-- The place is empty then; the lists are complete still.
use Rattle.drat_checker.proofs.Indexed.{indexed-clear}
use Rattle.drat_checker.proofs.database.Database.clear.Goals as goal

pub invariant_of-self : goal.invariant_of-self
invariant_of-self c = indexed-clear c.self.invariant c.args.number c.take.new.self c.take.ensures.others

pub invariant_of-self-in-Some : goal.invariant_of-self-in-Some
invariant_of-self-in-Some c = indexed-clear c.self.invariant c.args.number c.take.new.self c.take.ensures.others
