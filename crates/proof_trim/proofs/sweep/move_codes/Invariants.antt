-- What the loops of `move_codes` keep.
use Rattle.std.proofs.Common.{◌≡◌, ◌++◌, length}
use Rattle.std.specs.Prelude.{reverse}
use Rattle.proof_trim.specs.Packed.{behind_codes, codes_ahead}
use Rattle.proof_trim.proofs.sweep.move_codes.Given as goal

-- with the rest, they are what the whole gives
abbrev pub invariant-codes : goal.invariant-codes
invariant-codes l = record {
  behind : behind_codes l.from ≡ behind_codes l.fn.from;
  moved : reverse (codes_ahead l.from) ++ l.to ≡ reverse (codes_ahead l.fn.from) ++ l.fn.to;
}

abbrev pub decreases-codes : goal.decreases-codes
decreases-codes l = length l.from
