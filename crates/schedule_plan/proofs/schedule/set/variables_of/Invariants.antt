-- What the loops of `variables_of` keep.
use Rattle.std.proofs.Common.{◌≡◌, take}
use Rattle.schedule_plan.proofs.schedule.set.variables_of.Given as goal

abbrev pub invariant-numbers : goal.invariant-numbers
invariant-numbers l = l.variables.items ≡ take l.number-index l.numbers
