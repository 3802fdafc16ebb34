-- On the way: nodes that are to be copied, and one that was.
use Rattle.std.specs.Prelude.{◌≡◌, ◌⊎◌, ◌+◌, ℕ, Bool, false, List, [], ◌∷◌, ◌++◌, length, Some, Contains, IsTrue, slice_set}
use Rattle.std.specs.List.Sorted.{IsNonDecreasingBy}
use Rattle.node_table.specs.declared.node.Node.{Node}
use Rattle.node_table.specs.declared.node.Branch.{Branch}
use Rattle.node_table.specs.Diagram.{Graph, branch_at, is_node, level_of, variable_at}
use Rattle.node_table.specs.Made.{inner}
use Rattle.node_table.specs.Marks.{is_marked}
use Rattle.reconstruction.specs.declared.cells.Cell.{Cell}
use Rattle.reconstruction.specs.declared.copying.Uncopied.{Uncopied}
use Rattle.reconstruction.specs.Copies.{copy_of, has_copy}

-- the node is among those that are to be copied
pub record IsAmong (uncopied : List Uncopied) (node : Node) : Type 0 where
  pub entry : Uncopied
  pub there : Contains uncopied entry
  pub is : node ≡ inner entry.key

-- it has a copy, or is to be copied
abbrev pub IsKnown : List ℕ → List Uncopied → Node → Type 0
IsKnown copies uncopied node = IsTrue (has_copy copies node) ⊎ IsAmong uncopied node

-- these are marked nodes, with their levels
pub record AreMarked (graph : Graph) (marks : List Bool) (uncopied : List Uncopied) : Type 0 where
  pub marked : (entry : Uncopied) → Contains uncopied entry → IsTrue (is_marked marks (inner entry.key))
  pub level : (entry : Uncopied) → Contains uncopied entry → entry.level ≡ level_of graph (inner entry.key)

-- They are all that have no copy.
pub record AreAllMarked (graph : Graph) (marks : List Bool) (copies : List ℕ) (uncopied : List Uncopied) : Type 0 where
  pub are : AreMarked graph marks uncopied
  pub bare : (entry : Uncopied) → Contains uncopied entry → has_copy copies (inner entry.key) ≡ false
  pub all : (node : Node) → IsTrue (is_marked marks node) → IsKnown copies uncopied node

-- Nodes by rising levels. Their children have copies, or are among them.
pub record AreUncopied (graph : Graph) (copies : List ℕ) (uncopied : List Uncopied) : Type 0 where
  pub sorted : IsNonDecreasingBy (λ entry. entry.level) uncopied
  pub stand : (entry : Uncopied) → Contains uncopied entry → IsTrue (is_node graph (inner entry.key))
  pub bare : (entry : Uncopied) → Contains uncopied entry → has_copy copies (inner entry.key) ≡ false
  pub level : (entry : Uncopied) → Contains uncopied entry → entry.level ≡ level_of graph (inner entry.key)
  pub high : (entry : Uncopied) (branch : Branch) → Contains uncopied entry → branch_at graph entry.key ≡ Some branch
      → IsKnown copies uncopied branch.high
  pub low : (entry : Uncopied) (branch : Branch) → Contains uncopied entry → branch_at graph entry.key ≡ Some branch
      → IsKnown copies uncopied branch.low

-- the cell of a node whose children have copies
abbrev pub cell_of : Graph → List ℕ → Branch → Cell
cell_of graph copies branch = record {
  variable = variable_at graph branch.level;
  high = copy_of copies branch.high;
  low = copy_of copies branch.low;
}

-- a node was copied
pub record IsCopied (graph : Graph) (key : ℕ) (cells : List Cell) (copies : List ℕ) (after : List Cell) (now : List ℕ) : Type 0 where
  pub branch : Branch
  pub stands : branch_at graph key ≡ Some branch
  pub appended : after ≡ cells ++ cell_of graph copies branch ∷ []
  pub known : now ≡ slice_set copies key (length cells + 2)
