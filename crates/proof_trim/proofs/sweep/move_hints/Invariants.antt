-- What the loops of `move_hints` keep.
use Rattle.std.proofs.Common.{◌≡◌, ℕ, ◌++◌, ◌||◌, length}
use Rattle.std.specs.Prelude.{reverse}
use Rattle.std.specs.List.{list_any}
use Rattle.proof_trim.specs.Numbers.{has}
use Rattle.proof_trim.specs.Packed.{behind_codes, codes_ahead}
use Rattle.proof_trim.proofs.Moved.{is_code_of}
use Rattle.proof_trim.proofs.sweep.move_hints.Given as goal

-- with the rest, they are what the whole gives, and so are their numbers
abbrev pub invariant-codes : goal.invariant-codes
invariant-codes l = record {
  behind : behind_codes l.from ≡ behind_codes l.fn.from;
  moved : reverse (codes_ahead l.from) ++ l.to ≡ reverse (codes_ahead l.fn.from) ++ l.fn.to;
  entered : (id : ℕ) → (list_any (is_code_of id) (codes_ahead l.from) || has l.numbers id)
      ≡ (list_any (is_code_of id) (codes_ahead l.fn.from) || has l.fn.numbers id);
}

abbrev pub decreases-codes : goal.decreases-codes
decreases-codes l = length l.from
