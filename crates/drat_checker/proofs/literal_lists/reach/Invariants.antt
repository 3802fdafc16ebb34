-- What was gained is empty.
use Rattle.std.proofs.Common.{◌≡◌, ◌+◌, ◌-◌, ℕ, [], length, get_or}
use Rattle.drat_checker.proofs.literal_lists.reach.Given as goal

abbrev pub invariant-places : goal.invariant-places
invariant-places l = record { same : (k : ℕ) → get_or l.near.items k [] ≡ get_or l.fn.near.items k [] }

abbrev pub decreases-places : goal.decreases-places
decreases-places l = l.place + 1 - length l.near.items
