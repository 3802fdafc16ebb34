-- The least place so far is at most that of each negation so far, and is that of a negation.
use Rattle.std.proofs.Common.{take}
use Rattle.std.specs.Prelude.{IfSome}
use Rattle.drat_checker.proofs.Opposed.{AreBehind, IsOpposedAt}
use Rattle.drat_checker.proofs.hints.first_opposed.Given as goal

abbrev pub invariant-loop-literal : goal.invariant-loop-literal
invariant-loop-literal l = record {
  behind : AreBehind l.fn.trail.literals (take l.literal-index l.given) l.first;
  own : IfSome l.first (IsOpposedAt l.fn.trail.literals l.given);
}
