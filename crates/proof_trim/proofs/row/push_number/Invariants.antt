-- What the loops of `push_number` keep.
use Rattle.std.proofs.Common.{◌≡◌, ◌∷◌}
use Rattle.proof_trim.specs.Row.{numbers, numbers_behind}
use Rattle.proof_trim.proofs.row.push_number.Given as goal

-- the digits that are left lead to the whole number
abbrev pub invariant-digits : goal.invariant-digits
invariant-digits l = numbers_behind l.left l.bytes ≡ l.number ∷ numbers l.fn.bytes

abbrev pub decreases-digits : goal.decreases-digits
decreases-digits l = l.left
