-- A move that ended at the limit of nodes may be tried again: its stack and trail are those of the same stage.
use Rattle.std.proofs.Common.{◌≡◌, List, reverse, sym, subst}
use Rattle.cnf_base.specs.Formula.{Formula}
use Rattle.lrat_rules.specs.State.{Live}
use Rattle.node_table.specs.Diagram.{Graph, IsReduced, KeepsNodes}
use Rattle.node_table.specs.Laws.{Growth}
use Rattle.node_table.specs.Tied.{KeepsClauses}
use Rattle.reconstruction.specs.Stack.{Stack}
use Rattle.schedule_plan.specs.Plan.{Stage}
use Rattle.bdd_terms.specs.declared.held.HeldTerm.{HeldTerm}
use Rattle.term_runner.specs.Held.{AreHeld, IsAt}
use Rattle.term_runner.specs.Trail.{IsTrail}
use Rattle.term_runner.proofs.Stacks.{held_kept}
use Rattle.term_runner.proofs.Trails.{trail_grown}

pub at_still : Growth → (formula : Formula) (old new : Graph) → IsReduced old → KeepsNodes old new → (live more : Live)
    → KeepsClauses live more → (stage : Stage) (before after : List HeldTerm)
    (trail kept : Stack) → after ≡ before → kept ≡ trail → IsAt formula old live before trail stage
    → IsAt formula new more after kept stage
at_still growth formula old new reduced keeps live more clauses stage before after trail kept same same_trail at = record {
  held = subst (λ (stack : List HeldTerm). AreHeld formula new more (reverse stack) stage.stack) (sym same)
      (held_kept growth old new reduced keeps live more clauses formula (reverse before) stage.stack at.held);
  kept = subst (λ (t : Stack). IsTrail formula new t stage.trail) (sym same_trail)
      (trail_grown growth formula old new reduced keeps trail stage.trail at.kept);
}
