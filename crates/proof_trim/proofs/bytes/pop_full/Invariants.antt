-- What the loops of `pop_full` keep.
use Rattle.std.proofs.Common.{◌≡◌, [], length}
use Rattle.proof_trim.specs.Row.{stacked}
use Rattle.proof_trim.proofs.bytes.pop_full.Given as goal

-- the last chunk is empty, and all others are as before
abbrev pub invariant-chunks : goal.invariant-chunks
invariant-chunks l = (stacked l.full.items [] ≡ stacked l.fn.full.items []) × (l.last ≡ [])

abbrev pub decreases-chunks : goal.decreases-chunks
decreases-chunks l = length l.full.items
