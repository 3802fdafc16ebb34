-- What the loops of `kept_set` keep.
use Rattle.std.proofs.Common.{◌≡◌, take}
use Rattle.reconstruction.specs.Entries.{kept_set}
use Rattle.reconstruction.proofs.stack.kept_set.Given as goal

abbrev pub invariant-set : goal.invariant-set
invariant-set l = l.kept.items ≡ kept_set 0 (take l.place l.set) l.node
