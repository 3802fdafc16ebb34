-- What the loops of `near_settled` keep.
use Rattle.std.proofs.Common.{◌≡◌, ℕ, ◌<◌, true}
use Rattle.lrat_rules.specs.FalseLiterals.{set_of}
use Rattle.lrat_checker.specs.Clauses.{near_at}
use Rattle.lrat_checker.specs.Walk.{settles_at}
use Rattle.lrat_checker.proofs.clauses.near_settled.Given as goal

abbrev pub invariant-loop-number : goal.invariant-loop-number
invariant-loop-number l = (n : ℕ) → n < l.number → settles_at (set_of l.chain) l.pivot l.groups n (near_at l.chunks n) ≡ true
