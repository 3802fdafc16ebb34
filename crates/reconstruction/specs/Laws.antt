-- What calls on a table leave of copies, and what stored entries give back: each as one record, which a function without
-- work ensures.
use Rattle.std.specs.Prelude.{◌≡◌, ◌++◌, ℕ, List, [], reverse}
use Rattle.cnf_base.specs.Truth.{Assignment}
use Rattle.node_table.specs.Diagram.{Graph, IsReduced, KeepsNodes}
use Rattle.reconstruction.specs.declared.cells.Cell.{Cell}
use Rattle.reconstruction.specs.declared.entries.Entry.{Entry}
use Rattle.reconstruction.specs.declared.entries.Kept.{Kept}
use Rattle.node_table.specs.declared.node.Node.{Node}
use Rattle.node_table.specs.Value.{by_level, value_of}
use Rattle.reconstruction.specs.Copies.{AreCopies}
use Rattle.reconstruction.specs.Entries.{kept_set}
use Rattle.reconstruction.specs.SetBack.{set_cells_back, set_nodes_back}
use Rattle.reconstruction.specs.SetsBack.{set_back_by}
use Rattle.reconstruction.specs.Stack.{AreStored}

-- No copies are copies, and where the table keeps its nodes they are so still.
pub record Copying : Type 0 where
  pub none : (graph : Graph) (cells : List Cell) → AreCopies graph cells []
  pub grown : (old new : Graph) → IsReduced old → KeepsNodes old new → (cells : List Cell) (copies : List ℕ)
      → AreCopies old cells copies → AreCopies new cells copies

-- stored entries give the values that the nodes gave which they were stored for
abbrev pub Restored : Type 0
Restored = (graph : Graph) (cells : List Cell) (trail : List Kept) (entries : List Entry) → AreStored graph cells trail entries
    → (a : Assignment) → set_cells_back cells a (reverse entries) ≡ set_nodes_back graph a (reverse trail)

-- The entries of a set, put on the stack from the last variable in the order to the first, give the values that make the set's term
-- true as the variables do one after another, each from a term of its own: those of the set from which the later ones were quantified.
abbrev pub SetsRestored : Type 0
SetsRestored = (graph : Graph) (set : List ℕ) (node : Node) (older : List Kept) (a : Assignment)
    → set_nodes_back graph a (reverse (kept_set 0 set node) ++ older)
    ≡ set_nodes_back graph (set_back_by (λ b. value_of graph (by_level graph.order b) node) a (reverse set)) older
