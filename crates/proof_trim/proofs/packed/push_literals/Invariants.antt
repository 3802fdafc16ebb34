-- What the loops of `push_literals` keep.
use Rattle.std.proofs.Common.{◌≡◌, ◌++◌, take, map}
use Rattle.std.specs.Prelude.{reverse}
use Rattle.proof_trim.specs.Packed.{literal_code}
use Rattle.proof_trim.proofs.packed.push_literals.Given as goal

-- those so far are on top
abbrev pub invariant-loop-literal : goal.invariant-loop-literal
invariant-loop-literal l = l.row ≡ reverse (map literal_code (take l.literal-index l.clause)) ++ l.fn.row
