-- Room on the list of retired clauses: each clause that may be retired has a place. No clause of the formula is among those
-- that define nodes.
use Rattle.std.specs.Prelude.{◌≡◌, ◌<◌, ◌≤◌, ℕ, nat_eq, List, Some, IsTrue, length}
use Rattle.std.specs.Set.{is_member}
use Rattle.lrat_rules.specs.State.{Live}
use Rattle.node_table.specs.declared.node.Branch.{Branch}
use Rattle.node_table.specs.Diagram.{Graph, branch_at}
use Rattle.node_table.specs.Tied.{IsAdded}

-- The added clauses are all among these, and those are no more than there are places, for which there is room. So no proof counts
-- clauses.
pub record HavePlaces (graph : Graph) (live : Live) (inputs places capacity : ℕ) : Type 0 where
  pub added : List ℕ
  pub few : length added ≤ places
  pub room : places ≤ capacity
  pub all : (id : ℕ) → IsAdded graph live inputs id → IsTrue (is_member nat_eq added id)

-- the numbers of each node's clauses are above those of a formula of so many clauses
abbrev pub AreNumberedAbove : ℕ → Graph → Type 0
AreNumberedAbove inputs graph = (key : ℕ) (branch : Branch) → branch_at graph key ≡ Some branch → inputs < branch.first
