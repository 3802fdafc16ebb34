-- How many nodes a run keeps: between two moves fewer than a thousand, or fewer than twice those that the last reclamation
-- left, which its terms reached.
use Rattle.std.specs.Prelude.{◌≡◌, ◌⊎◌, ◌≤◌, ◌++◌, ℕ, Bool, false, List, [], Some, map}
use Rattle.cnf_base.specs.Formula.{Formula}
use Rattle.lrat_rules.specs.State.{Live}
use Rattle.node_table.specs.declared.node.Node.{Node}
use Rattle.node_table.specs.declared.node.Branch.{Branch}
use Rattle.node_table.specs.Diagram.{Graph, IsReduced, KeepsNodes, branch_at}
use Rattle.node_table.specs.Made.{inner}
use Rattle.node_table.specs.Marks.{IsReached}
use Rattle.node_table.specs.Table.{live_nodes}
use Rattle.quantify.specs.RunsFor.{Kind}
use Rattle.reconstruction.specs.declared.entries.Kept.{Kept}
use Rattle.reconstruction.specs.Stack.{Stack}
use Rattle.schedule_plan.specs.Plan.{Stage}
use Rattle.bdd_terms.specs.declared.held.HeldTerm.{HeldTerm}
use Rattle.term_runner.specs.Held.{IsAt}
use Rattle.term_runner.specs.Nodes.{KeepsOrMakes}
use Rattle.bdd_terms.specs.Tidy.{IsTidy}

-- the nodes of the stacked terms, and those on the trail that aren't stored
abbrev pub held_nodes : List HeldTerm → List Kept → List Node
held_nodes stack trail = map (λ held. held.node) stack ++ map (λ kept. kept.node) trail

-- A reclamation was due: of the nodes that there were, and those that a move makes, the limit of nodes was met, or they were
-- not few any more.
pub record WasDue (old : Graph) (kind : Kind) (max_nodes left : ℕ) : Type 0 where
  pub graph : Graph
  pub reduced : IsReduced graph
  pub made : KeepsOrMakes old graph kind
  pub many : (max_nodes ≤ live_nodes graph) ⊎ (IsTidy (live_nodes graph) left → ⊥)

-- nothing was given back, or it was due
abbrev pub IsByRule : Graph → Graph → Kind → ℕ → ℕ → ℕ → Type 0
IsByRule old new kind max_nodes before after = (KeepsNodes old new × (after ≡ before)) ⊎ WasDue old kind max_nodes before

-- So many nodes were left by a reclamation where the run was at this stage: those that its stacked terms reach, and those of the trail,
-- where its terms may stand among the nodes.
pub record WereLeft (keeps : Bool) (formula : Formula) (order : List ℕ) (stage : Stage) (left : ℕ) : Type 0 where
  pub graph : Graph
  pub live : Live
  pub stack : List HeldTerm
  pub trail : Stack
  pub at : IsAt formula graph live stack trail stage
  pub order_is : graph.order ≡ order
  pub reduced : IsReduced graph
  pub count : live_nodes graph ≡ left
  pub gone : keeps ≡ false → trail.recent ≡ []
  pub reached : (key : ℕ) (branch : Branch) → branch_at graph key ≡ Some branch → IsReached graph (held_nodes stack trail.recent) (inner key)
