-- What the loops of `reach` keep.
use Rattle.std.proofs.Common.{◌≡◌, ℕ, ◌+◌, ◌-◌, length}
use Rattle.lrat_checker.specs.Clauses.{near_at}
use Rattle.lrat_checker.proofs.clauses.reach.Given as goal

abbrev pub invariant-loop-chunks : goal.invariant-loop-chunks
invariant-loop-chunks l = (n : ℕ) → near_at l.chunks.items n ≡ near_at l.fn.chunks.items n

abbrev pub decreases-loop-chunks : goal.decreases-loop-chunks
decreases-loop-chunks l = l.index + 1 - length l.chunks.items
