-- What the loops of `pop_number` keep.
use Rattle.std.proofs.Common.{◌≡◌, length}
use Rattle.proof_trim.specs.Row.{numbers_behind}
use Rattle.proof_trim.proofs.row.pop_number.Given as goal

-- what is left spells the rest of the number, and the others
abbrev pub invariant-digits : goal.invariant-digits
invariant-digits l = numbers_behind l.begun l.fn.bytes ≡ numbers_behind l.number l.bytes

abbrev pub decreases-digits : goal.decreases-digits
decreases-digits l = length l.bytes
