-- Which nodes are reachable from some roots.
use Rattle.std.specs.Prelude.{◌≡◌, ◌↔◌, ℕ, Bool, true, false, List, Contains, Some, IsTrue, slice_index_or}
use Rattle.node_table.specs.declared.node.Node.{Node}
use Rattle.node_table.specs.declared.node.Node.TheVariants.{False, True, Inner}
use Rattle.node_table.specs.declared.node.Branch.{Branch}
use Rattle.node_table.specs.Diagram.{Graph, branch_at, is_node}
use Rattle.node_table.specs.Made.{Reaches, inner}

-- Which inner nodes were marked, by their keys; a constant always is.
abbrev pub is_marked : List Bool → Node → Bool
is_marked marks False = true
is_marked marks True = true
is_marked marks (Inner key) = slice_index_or marks key.index false

-- some root reaches the node by high and low children
pub record IsReached (graph : Graph) (roots : List Node) (node : Node) : Type 0 where
  pub root : Node
  pub is_root : Contains roots root
  pub reaches : Reaches graph root node

-- Exactly the inner nodes of the graph are marked that some root reaches.
abbrev pub AreReached : Graph → List Node → List Bool → Type 0
AreReached graph roots marks = (key : ℕ) → (IsTrue (is_marked marks (inner key)))
    ↔ (IsTrue (is_node graph (inner key)) × IsReached graph roots (inner key))

-- Marked nodes are the graph's, and so are their children marked.
pub record AreMarks (graph : Graph) (marks : List Bool) : Type 0 where
  pub stand : (key : ℕ) → IsTrue (is_marked marks (inner key)) → IsTrue (is_node graph (inner key))
  pub high : (key : ℕ) (branch : Branch) → IsTrue (is_marked marks (inner key)) → branch_at graph key ≡ Some branch
      → IsTrue (is_marked marks branch.high)
  pub low : (key : ℕ) (branch : Branch) → IsTrue (is_marked marks (inner key)) → branch_at graph key ≡ Some branch
      → IsTrue (is_marked marks branch.low)
