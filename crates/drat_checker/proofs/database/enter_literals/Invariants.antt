-- No list loses a number, and the number is in the lists of the literals so far.
use Rattle.std.proofs.Common.{take}
use Rattle.drat_checker.specs.Numbers.{KeepsLists, KeepsRising}
use Rattle.drat_checker.specs.Database.{IsHeld}
use Rattle.drat_checker.proofs.database.enter_literals.Given as goal

abbrev pub invariant-loop-literal : goal.invariant-loop-literal
invariant-loop-literal l = record {
  kept : KeepsLists l.fn.by_literal l.by_literal;
  rising : KeepsRising l.number l.fn.by_literal l.by_literal;
  held : IsHeld l.by_literal l.number (take l.literal-index l.clause);
}
