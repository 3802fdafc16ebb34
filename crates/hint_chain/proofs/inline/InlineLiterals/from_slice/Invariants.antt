-- What the loops of `InlineLiterals::from_slice` keep.
use Rattle.std.proofs.Common.{◌≡◌, take}
use Rattle.hint_chain.proofs.inline.InlineLiterals.from_slice.Given as goal

abbrev pub invariant-loop-literal : goal.invariant-loop-literal
invariant-loop-literal g l = l.list ≡ take l.literal-index l.literals
