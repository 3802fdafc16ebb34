-- There is no clause.
use Rattle.drat_checker.proofs.Entered.{watched-none}
use Rattle.drat_checker.proofs.watches.Watches.new.Goals as goal

pub returns : goal.returns
returns c = watched-none _ c.new.ensures.items
