-- The same by the literals so far that aren't the pivot's negation; and the old ones stand in front.
use Rattle.std.proofs.Common.{◌≡◌, ◌&&◌, take}
use Rattle.std.specs.List.{list_all}
use Rattle.lrat_rules.specs.Chain.{FalseSet}
use Rattle.drat_rules.specs.Addition.{others_of}
use Rattle.drat_checker.specs.Places.{Places}
use Rattle.drat_checker.specs.Propagation.{Extends}
use Rattle.drat_checker.specs.Reasons.{KeepsReasons}
use Rattle.drat_checker.proofs.addition.assume_others.Given as goal

abbrev pub invariant-loop-literal : goal.invariant-loop-literal
invariant-loop-literal l = record {
  extends : Extends l.fn.trail.literals l.trail.literals;
  reasons : (places : Places) → KeepsReasons places (others_of l.fn.pivot l.fn.clause) l.fn.trail l.trail;
  others : (q : FalseSet) → list_all q l.trail.literals
      ≡ (list_all q l.fn.trail.literals && list_all q (others_of l.fn.pivot (take l.literal-index l.fn.clause)));
}
