-- What the loop of `is_set` keeps.
use Rattle.std.proofs.Common.{reverse, take}
use Rattle.reconstruction.specs.Entries.{IsSet}
use Rattle.reconstruction.proofs.restore.is_set.Given as goal

abbrev pub invariant-entries : goal.invariant-entries
invariant-entries l = IsSet l.key (reverse (take l.place l.entries))
