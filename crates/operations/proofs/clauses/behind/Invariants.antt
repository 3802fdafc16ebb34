-- What the loops of `behind` keep.
use Rattle.std.proofs.Common.{◌≡◌, ◌∷◌, take}
use Rattle.operations.proofs.clauses.behind.Given as goal

abbrev pub invariant-loop-own : goal.invariant-loop-own
invariant-loop-own l = l.long ≡ l.fn.literal ∷ take l.own-index l.clause
