-- No list has a number.
use Rattle.drat_checker.proofs.Placed.{none-at}
use Rattle.drat_checker.proofs.literal_lists.LiteralLists.new.Goals as goal

pub returns : goal.returns
returns c = none-at _ c.new.ensures.items c.new-2.ensures
