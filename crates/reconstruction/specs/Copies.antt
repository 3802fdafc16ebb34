-- Which nodes of a table have copies among cells: a list by the nodes' keys, with 0 where there is none.
use Rattle.std.specs.Prelude.{◌≡◌, ◌<◌, ◌≤◌, ◌+◌, ◌^◌, ℕ, Bool, true, List, length, IsTrue, nat_lt, slice_index_or, if◌then◌else◌}
use Rattle.cnf_base.specs.Truth.{Assignment}
use Rattle.node_table.specs.declared.node.Node.{Node}
use Rattle.node_table.specs.declared.node.Node.TheVariants.{False, True, Inner}
use Rattle.node_table.specs.Diagram.{Graph, is_node}
use Rattle.node_table.specs.Made.{inner}
use Rattle.node_table.specs.Value.{by_level, value_of}
use Rattle.reconstruction.specs.declared.cells.Cell.{Cell}
use Rattle.reconstruction.specs.Cells.{AreOrdered, HasMore, cell_value, most_cells}
use Rattle.reconstruction.specs.SetsBack.{AreFree}

-- the key of a node's copy; the constants are their own
abbrev pub copy_of : List ℕ → Node → ℕ
copy_of copies False = 0
copy_of copies True = 1
copy_of copies (Inner key) = slice_index_or copies key.index 0

abbrev pub has_copy : List ℕ → Node → Bool
has_copy copies False = true
has_copy copies True = true
has_copy copies (Inner key) = nat_lt 0 (slice_index_or copies key.index 0)

-- A node with a copy stands, and the copy says what it says.
pub record AreCopies (graph : Graph) (cells : List Cell) (copies : List ℕ) : Type 0 where
  pub stand : (node : Node) → IsTrue (has_copy copies node) → IsTrue (is_node graph node)
  pub value : (node : Node) → IsTrue (has_copy copies node) → (a : Assignment)
      → cell_value cells a (copy_of copies node) ≡ value_of graph (by_level graph.order a) node

-- The cells are ordered, no cell's variable matters to its children, and each copy is one of them.
pub record AreSound (cells : List Cell) (copies : List ℕ) : Type 0 where
  pub ordered : AreOrdered cells
  pub free : AreFree cells
  pub few : length cells ≤ most_cells
  pub within : (key : ℕ) → slice_index_or copies key 0 < length cells + 2
  pub places : length copies < 2 ^ 32

-- Nodes were copied: the cells that there were are left, and what had a copy has one.
pub record Copies (graph : Graph) (before : List Cell) (held : List ℕ) (cells : List Cell) (copies : List ℕ) : Type 0 where
  pub sound : AreSound cells copies
  pub are : AreCopies graph cells copies
  pub more : HasMore before cells
  pub still : (node : Node) → IsTrue (has_copy held node) → IsTrue (has_copy copies node)

-- the copies of nodes that aren't there are forgotten
abbrev pub Forgets : Graph → List ℕ → List ℕ → Type 0
Forgets graph old new = (key : ℕ) → slice_index_or new key 0 ≡ (if is_node graph (inner key) then slice_index_or old key 0 else 0)

-- what had a copy has the same one
abbrev pub KeepsCopies : List ℕ → List ℕ → Type 0
KeepsCopies old new = (node : Node) → IsTrue (has_copy old node) → copy_of new node ≡ copy_of old node
