-- On the way down from a node, with the values so far.
use Rattle.std.specs.Prelude.{◌≡◌, ◌≢◌, ℕ, ◌<◌, ◌≤◌, Bool, true, false, List}
use Rattle.cnf_base.specs.Truth.{Assignment, assignment_of}
use Rattle.node_table.specs.declared.node.Node.{Node}
use Rattle.node_table.specs.declared.node.Node.TheVariants.{False}
use Rattle.node_table.specs.Diagram.{Graph, is_node, levels, level_of}
use Rattle.node_table.specs.Value.{Levels, by_level, value_of}

-- The values above the current node lead to it, none that makes the first node true has false where they are true, and
-- those below are false.
pub record IsDown (graph : Graph) (a : Levels) (first node : Node) : Type 0 where
  pub stands : is_node graph node ≡ true
  pub some : node ≢ False
  pub leads : (b : Levels) → ((i : ℕ) → i < level_of graph node → b i ≡ a i) → value_of graph b first ≡ value_of graph b node
  pub least : (other : Levels) → value_of graph other first ≡ true → (level : ℕ) → level < level_of graph node
      → ((i : ℕ) → i < level → other i ≡ a i) → a level ≡ true → other level ≡ true
  pub rest : (i : ℕ) → level_of graph node ≤ i → i < levels graph → a i ≡ false

-- the values by levels
abbrev pub levels_of : Graph → List Bool → Levels
levels_of graph values = by_level graph.order (assignment_of values)

-- The same values; there is no variable 0.
pub record AreAlike (one other : Assignment) : Type 0 where
  pub same : (variable : ℕ) → 0 < variable → one variable ≡ other variable
