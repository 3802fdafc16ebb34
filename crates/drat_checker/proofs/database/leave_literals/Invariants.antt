-- The lists keep the numbers of the clauses that stand.
use Rattle.std.proofs.Common.{ℕ}
use Rattle.drat_checker.specs.Numbers.{KeepsRising, KeepsStandingLists}
use Rattle.drat_checker.proofs.database.leave_literals.Given as goal

abbrev pub invariant-loop-literal : goal.invariant-loop-literal
invariant-loop-literal l = record {
  kept : KeepsStandingLists l.fn.store l.fn.by_literal l.by_literal;
  rising : (most : ℕ) → KeepsRising most l.fn.by_literal l.by_literal;
}
