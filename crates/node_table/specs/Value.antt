-- The function of a node: where its variable is true that of its high child, else that of its low one. An
-- assignment is given by levels, so that laws on nodes never speak of variables; `by_level` is the way from one by variables.
-- (Bryant: Graph-Based Algorithms for Boolean Function Manipulation, 1986, section 2.)
use Rattle.std.specs.Prelude.{◌≡◌, ◌<◌, ◌-◌, ℕ, zero, suc, Bool, true, false, List, Option, None, Some, nat_lt, if◌then◌else◌}
use Rattle.std.specs.Prelude.{slice_index_or}
use Rattle.cnf_base.specs.Truth.{Assignment}
use Rattle.node_table.specs.declared.node.Node.{Node}
use Rattle.node_table.specs.declared.node.Node.TheVariants.{False, True, Inner}
use Rattle.node_table.specs.declared.node.Branch.{Branch}
use Rattle.node_table.specs.Diagram.{Graph, branch_at, is_node, levels, level_of}

-- which levels' variables are true
abbrev pub Levels : Type 0
Levels = ℕ → Bool

abbrev pub by_level : List ℕ → Assignment → Levels
by_level order a level = a (slice_index_or order level 0)

abbrev pub branch_value : Levels → (Node → Bool) → Option Branch → Bool
branch_value a value None = false
branch_value a value (Some branch) = if a branch.level then value branch.high else value branch.low

-- so many nodes are looked at on the way down; there are no more than levels
abbrev pub value_within : ℕ → Graph → Levels → Node → Bool
value_within steps graph a False = false
value_within steps graph a True = true
value_within zero graph a (Inner key) = false
value_within (suc steps) graph a (Inner key) = branch_value a (value_within steps graph a) (branch_at graph key.index)

abbrev pub value_of : Graph → Levels → Node → Bool
value_of graph a node = value_within (levels graph) graph a node

-- the first function's values, but with the first levels fixed
abbrev pub fixed_to : ℕ → Levels → Levels → Levels
fixed_to level fixed a i = if nat_lt i level then fixed i else a i

-- one function is another with its first levels fixed
pub record IsSubfunction (function part : Levels → Bool) : Type 0 where
  pub level : ℕ
  pub fixed : Levels
  pub same : (a : Levels) → part a ≡ function (fixed_to level fixed a)

-- on the way down: the chosen child has the node's value, and stands below it
pub record IsChosen (graph : Graph) (a : Levels) (node child : Node) : Type 0 where
  pub stands : is_node graph child ≡ true
  pub same : value_of graph a child ≡ value_of graph a node
  pub nearer : levels graph - level_of graph child < levels graph - level_of graph node
