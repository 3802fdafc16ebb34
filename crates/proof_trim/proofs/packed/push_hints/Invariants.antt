-- What the loops of `push_hints` keep.
use Rattle.std.proofs.Common.{◌≡◌, ◌++◌, take, map}
use Rattle.std.specs.Prelude.{reverse}
use Rattle.proof_trim.specs.Packed.{hint_code}
use Rattle.proof_trim.proofs.packed.push_hints.Given as goal

-- those so far are on top
abbrev pub invariant-loop-id : goal.invariant-loop-id
invariant-loop-id l = l.row ≡ reverse (map hint_code (take l.id-index l.hints)) ++ l.fn.row
