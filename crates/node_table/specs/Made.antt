-- What an operation may leave in a graph: nodes of parts of the function that it is asked for, reachable from its
-- result.
use Rattle.std.specs.Prelude.{◌≡◌, ◌⊎◌, ℕ, Bool, List, [], ◌∷◌, Option, None, Some, IsTrue, if◌then◌else◌}
use Rattle.node_table.specs.declared.node.Node.{Node}
use Rattle.node_table.specs.declared.node.Node.TheVariants.{Inner}
use Rattle.node_table.specs.declared.node.Branch.{Branch}
use Rattle.node_table.specs.Diagram.{Graph, branch_at, branch_of, is_node}
use Rattle.node_table.specs.Value.{Levels, value_of, IsSubfunction}

-- the inner node of a key
abbrev pub inner : ℕ → Node
inner key = Inner (record { index = key })

-- each node is as it was in the old graph, or its function is a subfunction of this one
pub record MakesOnly (old new : Graph) (function : Levels → Bool) : Type 0 where
  pub each : (key : ℕ) (branch : Branch) → branch_at new key ≡ Some branch → (branch_at old key ≡ Some branch)
      ⊎ IsSubfunction function (λ a. value_of new a (inner key))

-- the high or the low child of a node; a constant is its own
abbrev pub child_of : Bool → Node → Option Branch → Node
child_of to_high node None = node
child_of to_high node (Some branch) = if to_high then branch.high else branch.low

-- the node at the end of a path
abbrev pub end_of : Graph → Node → List Bool → Node
end_of graph node [] = node
end_of graph node (to_high ∷ path) = end_of graph (child_of to_high node (branch_of graph node)) path

-- A path of high and low children leads from a node to another one: it reaches itself, and what its children reach.
pub record Reaches (graph : Graph) (node other : Node) : Type 0 where
  pub path : List Bool
  pub ends : end_of graph node path ≡ other

-- each node is as it was in the old graph, or reachable from this one
pub record ReachesNew (old new : Graph) (root : Node) : Type 0 where
  pub each : (key : ℕ) (branch : Branch) → branch_at new key ≡ Some branch → (branch_at old key ≡ Some branch)
      ⊎ Reaches new root (inner key)

-- what is reachable from a node is as it was
pub record KeepsFrom (old new : Graph) (node : Node) : Type 0 where
  pub order : new.order ≡ old.order
  pub nodes : (key : ℕ) (branch : Branch) → Reaches old node (inner key) → branch_at old key ≡ Some branch → branch_at new key ≡ Some branch

-- A subfunction of this function is that of no node, so of no constant.
pub record LacksPart (graph : Graph) (function : Levels → Bool) : Type 0 where
  pub part : Levels → Bool
  pub is_part : IsSubfunction function part
  pub nowhere : (node : Node) → IsTrue (is_node graph node) → ((a : Levels) → value_of graph a node ≡ part a) → ⊥
