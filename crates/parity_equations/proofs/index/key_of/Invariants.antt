-- What the loop of `key_of` keeps.
use Rattle.std.proofs.Common.{◌≡◌, ◌-◌, ◌++◌, pos, replicate, take}
use Rattle.parity_equations.proofs.index.key_of.Given as goal

abbrev pub invariant-places : goal.invariant-places
invariant-places l = l.key ≡ take l.place l.set ++ replicate (8 - l.place) (pos 0)
