-- The least assignment that makes a node and a cube true: the variables are compared in the order, and false comes before true.
-- (Bryant: Graph-Based Algorithms for Boolean Function Manipulation, 1986, section 4.6.)
use Rattle.std.specs.Prelude.{◌≡◌, ◌<◌, ℕ, Bool, true, ℤ, List, length}
use Rattle.cnf_base.specs.Cube.{cube_holds}
use Rattle.cnf_base.specs.Truth.{Assignment, assignment_of}
use Rattle.node_table.specs.declared.node.Node.{Node}
use Rattle.node_table.specs.Diagram.{Graph, levels, variable_at}
use Rattle.node_table.specs.Value.{by_level, value_of}

-- the node and all literals of the cube hold
pub record HoldsWith (graph : Graph) (node : Node) (cube : List ℤ) (a : Assignment) : Type 0 where
  pub node_holds : value_of graph (by_level graph.order a) node ≡ true
  pub cube_holds : cube_holds a cube ≡ true

-- One value for each variable. They make both true, and each other assignment that does has true where they have, at the first place
-- where they differ.
pub record IsLeastModel (graph : Graph) (node : Node) (cube : List ℤ) (values : List Bool) : Type 0 where
  pub one_each : length values ≡ levels graph
  pub holds : HoldsWith graph node cube (assignment_of values)
  pub least : (other : Assignment) → HoldsWith graph node cube other → (place : ℕ) → place < levels graph
      → ((earlier : ℕ) → earlier < place → other (variable_at graph earlier) ≡ assignment_of values (variable_at graph earlier))
      → assignment_of values (variable_at graph place) ≡ true → other (variable_at graph place) ≡ true

-- no assignment makes both true
abbrev pub HasNoModel : Graph → Node → List ℤ → Type 0
HasNoModel graph node cube = (a : Assignment) → HoldsWith graph node cube a → ⊥
