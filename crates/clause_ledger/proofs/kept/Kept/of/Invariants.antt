-- What the loops of `Kept::of` keep.
use Rattle.std.proofs.Common.{take}
use Rattle.lrat_rules.specs.State.{start}
use Rattle.clause_ledger.specs.Kept.{AreKept}
use Rattle.clause_ledger.proofs.kept.Kept.of.Given as goal

abbrev pub invariant-loop-i : goal.invariant-loop-i
invariant-loop-i l = AreKept (start (take l.i l.formula.clauses)) l.kept
