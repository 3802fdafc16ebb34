-- Where it isn't to, the lists stay.
use Rattle.drat_checker.proofs.Placed.{same-each}
use Rattle.drat_checker.proofs.watches.enter_if.Goals as goal

pub returns-clause-kept : goal.returns-clause-kept
returns-clause-kept c = same-each c.args.lists.now
