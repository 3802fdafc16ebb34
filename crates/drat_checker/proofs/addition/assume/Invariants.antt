-- A set has what is false so far exactly where it has the old literals and those of the clause so far.
use Rattle.std.proofs.Common.{◌≡◌, ◌&&◌, take}
use Rattle.std.specs.List.{list_all}
use Rattle.lrat_rules.specs.Chain.{FalseSet}
use Rattle.drat_checker.specs.Places.{Places}
use Rattle.drat_checker.specs.Propagation.{Extends}
use Rattle.drat_checker.specs.Reasons.{KeepsReasons}
use Rattle.drat_checker.proofs.addition.assume.Given as goal

abbrev pub invariant-loop-literal : goal.invariant-loop-literal
invariant-loop-literal l = record {
  extends : Extends l.fn.trail.literals l.trail.literals;
  reasons : (places : Places) → KeepsReasons places l.fn.clause l.fn.trail l.trail;
  also : (q : FalseSet) → list_all q l.trail.literals ≡ (list_all q l.fn.trail.literals && list_all q (take l.literal-index l.fn.clause));
}
