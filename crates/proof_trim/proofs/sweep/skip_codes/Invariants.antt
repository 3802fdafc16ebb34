-- What the loops of `skip_codes` keep.
use Rattle.std.proofs.Common.{◌≡◌, length}
use Rattle.proof_trim.specs.Packed.{behind_codes}
use Rattle.proof_trim.proofs.sweep.skip_codes.Given as goal

abbrev pub invariant-codes : goal.invariant-codes
invariant-codes l = behind_codes l.row ≡ behind_codes l.fn.row

abbrev pub decreases-codes : goal.decreases-codes
decreases-codes l = length l.row
