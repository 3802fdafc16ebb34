-- What the loops of `gathered` keep.
use Rattle.std.proofs.Common.{◌≡◌}
use Rattle.schedule_plan.specs.Forest.{occurrences_of}
use Rattle.schedule_plan.proofs.occurrence.gathered.Given as goal

abbrev pub invariant-loop-clause : goal.invariant-loop-clause
invariant-loop-clause l = l.occurrences.items ≡ occurrences_of l.places l.formula l.clause
