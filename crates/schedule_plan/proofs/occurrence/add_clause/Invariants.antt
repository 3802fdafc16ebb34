-- What the loops of `add_clause` keep.
use Rattle.std.proofs.Common.{◌≡◌, ◌++◌, map, take}
use Rattle.schedule_plan.specs.Forest.{occurrence_of}
use Rattle.schedule_plan.proofs.occurrence.add_clause.Given as goal

abbrev pub invariant-literals : goal.invariant-literals
invariant-literals l = l.occurrences.items ≡ l.fn.occurrences.items
    ++ map (occurrence_of l.places l.clause) (take l.literal-index l.literals)
