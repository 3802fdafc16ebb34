-- What the loops of `numbered` keep.
use Rattle.std.proofs.Common.{◌≡◌, take}
use Rattle.lrat_rules.specs.State.{start}
use Rattle.lrat_checker.proofs.judge.numbered.Given as goal

-- the clauses so far
abbrev pub invariant-loop-i : goal.invariant-loop-i
invariant-loop-i l = l.live ≡ (start (take l.i l.formula.clauses)).live
