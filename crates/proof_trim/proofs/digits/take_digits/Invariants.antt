-- What the loop of `take_digits` keeps.
use Rattle.std.proofs.Common.{◌≡◌, ◌++◌, ℕ, List, length}
use Rattle.std.specs.Prelude.{reverse}
use Rattle.proof_trim.specs.Row.{numbers, numbers_behind}
use Rattle.proof_trim.proofs.digits.take_digits.Given as goal

-- what is left spells the rest of the number, and the others
abbrev pub invariant-digits : goal.invariant-digits
invariant-digits l = (rest : List ℕ) → numbers (reverse l.fn.bytes.items ++ rest) ≡ numbers_behind l.number (reverse l.bytes.items ++ rest)

abbrev pub decreases-digits : goal.decreases-digits
decreases-digits l = length l.bytes.items
