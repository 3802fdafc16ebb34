-- What the loops of `enter_near` keep.
use Rattle.std.proofs.Common.{◌≡◌, ℕ, ◌<◌, true}
use Rattle.lrat_checker.specs.Clauses.{near_at}
use Rattle.lrat_checker.specs.Holders.{KeepsAll, is_entered}
use Rattle.lrat_checker.specs.Walk.{passes_at}
use Rattle.lrat_checker.proofs.clauses.enter_near.Given as goal

-- nothing is lost so far, and the clauses so far are entered
abbrev pub invariant-loop-number : goal.invariant-loop-number
invariant-loop-number l = record {
  kept : KeepsAll l.fn.holders l.holders;
  entered : (n : ℕ) → n < l.number → passes_at (is_entered l.holders) n (near_at l.chunks n) ≡ true;
}
