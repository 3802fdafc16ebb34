-- What the loops of `entries_of` keep.
use Rattle.std.proofs.Common.{◌≡◌, map, take}
use Rattle.reconstruction.specs.Stack.{entry_of}
use Rattle.reconstruction.proofs.stack.entries_of.Given as goal

abbrev pub invariant-recent : goal.invariant-recent
invariant-recent l = l.entries.items ≡ map (entry_of l.copies) (take l.kept-index l.recent)
