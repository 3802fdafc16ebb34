-- How few nodes are left alone, and what a reclamation leaves.
use Rattle.std.specs.Prelude.{◌≡◌, ◌⊎◌, ◌<◌, ◌*◌, ℕ, List, Contains, Some, IsTrue}
use Rattle.node_table.specs.declared.node.Node.{Node}
use Rattle.node_table.specs.declared.node.Branch.{Branch}
use Rattle.node_table.specs.Diagram.{Graph, IsReduced, branch_at, is_node}
use Rattle.node_table.specs.Made.{inner}
use Rattle.node_table.specs.Marks.{IsReached}
use Rattle.node_table.specs.Value.{Levels, value_of}

-- so few nodes that none are given back
abbrev pub IsTidy : ℕ → ℕ → Type 0
IsTidy live left = (live < 1000) ⊎ (live < 2 * left)

-- Only nodes are left that the roots reach, as they were, with their functions.
pub record LeavesReached (old new : Graph) (roots : List Node) : Type 0 where
  pub order : new.order ≡ old.order
  pub reduced : IsReduced new
  pub nodes : (key : ℕ) (branch : Branch) → branch_at new key ≡ Some branch → branch_at old key ≡ Some branch
  pub reached : (key : ℕ) (branch : Branch) → branch_at new key ≡ Some branch → IsReached new roots (inner key)
  pub stand : (root : Node) → Contains roots root → IsTrue (is_node new root)
  pub value : (a : Levels) (node : Node) → IsTrue (is_node new node) → value_of new a node ≡ value_of old a node
