-- The levels of the places that were left stand before the node's.
use Rattle.std.proofs.Common.{◌≡◌, ◌-◌, drop, length}
use Rattle.quantify.specs.SetQuantification.{from_level}
use Rattle.quantify.proofs.quantify_set.next_place.Given as goal

abbrev pub invariant-places : goal.invariant-places
invariant-places l = from_level l.own (drop l.at l.set) ≡ from_level l.own (drop l.fn.place l.set)

abbrev pub decreases-places : goal.decreases-places
decreases-places l = length l.set - l.at
