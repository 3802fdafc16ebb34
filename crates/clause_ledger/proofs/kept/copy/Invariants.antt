-- What the loops of `copy` keep.
use Rattle.std.proofs.Common.{◌≡◌, ◌+◌, ◌++◌, take, vec_len, vec_capacity}
use Rattle.clause_ledger.proofs.kept.copy.Given as goal

abbrev pub invariant-loop-literal : goal.invariant-loop-literal
invariant-loop-literal l =
    (l.literals.items ≡ l.initial.literals.items ++ take l.literal-index l.clause)
    × (vec_len l.literals ≡ vec_len l.initial.literals + l.literal-index)
    × (vec_capacity l.literals ≡ vec_capacity l.initial.literals)
