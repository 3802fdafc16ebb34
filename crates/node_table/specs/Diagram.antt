-- Reduced ordered binary decision diagrams: a set of nodes over an order of the variables. (Bryant: Graph-Based
-- Algorithms for Boolean Function Manipulation, 1986.)
use Rattle.std.specs.Prelude.{◌≡◌, ◌≢◌, ◌<◌, ℕ, zero, suc, Bool, true, List, length, Option, None, Some, IsTrue, is_some, refl}
use Rattle.std.specs.Prelude.{slice_index_or, if◌then◌else◌, ◌==◌}
use Rattle.std.specs.Coded.{Coded, code_by, coded×, coded_ℕ, coded_list}
use Rattle.std.specs.Ordering.{nat_cmp}
use Rattle.std.specs.FinMap as map
pub use Rattle.cnf_base.specs.Order.{IsOrder}
use Rattle.node_table.specs.declared.node.Node.{Node}
use Rattle.node_table.specs.declared.node.Node.TheVariants.{False, True, Inner}
use Rattle.node_table.specs.declared.node.Branch.{Branch}

-- The variables, the top one first, and the inner nodes by their keys.
pub record Graph : Type 0 where
  pub order : List ℕ
  pub nodes : map.FinMap nat_cmp Branch

-- the inner node under a key
abbrev pub branch_at : Graph → ℕ → Option Branch
branch_at graph key = map.get graph.nodes key

-- the inner node of this name; the constants are none
abbrev pub branch_of : Graph → Node → Option Branch
branch_of graph False = None
branch_of graph True = None
branch_of graph (Inner key) = branch_at graph key.index

-- a constant, or an inner node of the graph
abbrev pub is_node : Graph → Node → Bool
is_node graph False = true
is_node graph True = true
is_node graph (Inner key) = is_some (branch_at graph key.index)

-- how many levels there are; the constants stand below all of them
abbrev pub levels : Graph → ℕ
levels graph = length graph.order

abbrev pub level_in : ℕ → Option Branch → ℕ
level_in bottom None = bottom
level_in bottom (Some branch) = branch.level

abbrev pub level_of : Graph → Node → ℕ
level_of graph node = level_in (levels graph) (branch_of graph node)

-- a node of the graph that stands below a level
pub record IsBelow (graph : Graph) (level : ℕ) (node : Node) : Type 0 where
  pub stands : IsTrue (is_node graph node)
  pub below : level < level_of graph node

-- the variable of a level
abbrev pub variable_at : Graph → ℕ → ℕ
variable_at graph level = slice_index_or graph.order level 0

-- the cofactors at a level: the children of a node of this level, and the node itself where it stands below
abbrev pub child_in : (Branch → Node) → ℕ → Node → Option Branch → Node
child_in child level node None = node
child_in child level node (Some branch) = if branch.level == level then child branch else node

abbrev pub high_at : Graph → ℕ → Node → Node
high_at graph level node = child_in (λ branch. branch.high) level node (branch_of graph node)

abbrev pub low_at : Graph → ℕ → Node → Node
low_at graph level node = child_in (λ branch. branch.low) level node (branch_of graph node)

-- the same variable and the same children
pub record IsAlike (one other : Branch) : Type 0 where
  pub level : one.level ≡ other.level
  pub high : one.high ≡ other.high
  pub low : one.low ≡ other.low

-- Ordered: children stand below their node. Reduced: they differ, and no two nodes are alike. Each node has an
-- extension variable of its own, above the formula's variables.
pub record IsReduced (graph : Graph) : Type 0 where
  pub level : (key : ℕ) (branch : Branch) → branch_at graph key ≡ Some branch → branch.level < levels graph
  pub high : (key : ℕ) (branch : Branch) → branch_at graph key ≡ Some branch → IsBelow graph branch.level branch.high
  pub low : (key : ℕ) (branch : Branch) → branch_at graph key ≡ Some branch → IsBelow graph branch.level branch.low
  pub differ : (key : ℕ) (branch : Branch) → branch_at graph key ≡ Some branch → branch.high ≢ branch.low
  pub unique : (key other : ℕ) (one two : Branch) → branch_at graph key ≡ Some one → branch_at graph other ≡ Some two → IsAlike one two
      → key ≡ other
  pub above : (key : ℕ) (branch : Branch) → branch_at graph key ≡ Some branch → levels graph < branch.variable
  pub apart : (key other : ℕ) (one two : Branch) → branch_at graph key ≡ Some one → branch_at graph other ≡ Some two → one.variable
      ≡ two.variable → key ≡ other

-- one node more
abbrev pub with_branch : Graph → ℕ → Branch → Graph
with_branch graph key branch = record { order = graph.order; nodes = map.insert graph.nodes key branch }

-- no node of this level has these children
abbrev pub IsMissing : Graph → ℕ → Node → Node → Type 0
IsMissing graph level high low = (key : ℕ) (branch : Branch) → branch_at graph key ≡ Some branch → branch.level ≡ level → branch.high ≡ high
    → branch.low ≡ low → ⊥

-- a node that has to be made: its children differ, and none is alike
pub record IsWanted (graph : Graph) (level : ℕ) (high low : Node) : Type 0 where
  pub differ : high ≢ low
  pub missing : IsMissing graph level high low

-- A node that may join the graph: its children stand below it and differ, and no node is alike.
pub record FitsIn (graph : Graph) (branch : Branch) : Type 0 where
  pub level : branch.level < levels graph
  pub high : IsBelow graph branch.level branch.high
  pub low : IsBelow graph branch.level branch.low
  pub differ : branch.high ≢ branch.low
  pub alone : (key : ℕ) (other : Branch) → branch_at graph key ≡ Some other → IsAlike other branch → ⊥

-- it joined, under a new key
pub record IsNew (old new : Graph) (key : ℕ) (branch : Branch) : Type 0 where
  pub unused : branch_at old key ≡ None
  pub joined : new ≡ with_branch old key branch

-- The nodes of a graph stay as they are in another one, which may have more.
pub record KeepsNodes (old new : Graph) : Type 0 where
  pub order : new.order ≡ old.order
  pub nodes : (key : ℕ) (branch : Branch) → branch_at old key ≡ Some branch → branch_at new key ≡ Some branch

-- A graph can be a model's value. A node is stored as two numbers: which of the three it is, and its key.
abbrev pub pair_of_node : Node → ℕ × ℕ
pair_of_node False = (0, 0)
pair_of_node True = (1, 0)
pair_of_node (Inner key) = (2, key.index)

abbrev pub node_of_pair : ℕ → ℕ → Node
node_of_pair zero key = False
node_of_pair (suc zero) key = True
node_of_pair (suc (suc more)) key = Inner (record { index = key })

pub node_back : (node : Node) → node_of_pair (pair_of_node node).0 (pair_of_node node).1 ≡ node
node_back False = refl
node_back True = refl
node_back (Inner key) = refl

abbrev pub node_code : Coded Node
node_code = code_by (ℕ × ℕ) (coded× coded_ℕ coded_ℕ) pair_of_node (λ p. node_of_pair p.0 p.1) node_back

abbrev pub branch_code : Coded Branch
branch_code =
    code_by (ℕ × (ℕ × (Node × (Node × ℕ)))) (coded× coded_ℕ (coded× coded_ℕ (coded× node_code (coded× node_code coded_ℕ))))
    (λ b. (b.level, (b.variable, (b.high, (b.low, b.first)))))
    (λ p. record { level = p.0; variable = p.1.0; high = p.1.1.0; low = p.1.1.1.0; first = p.1.1.1.1 }) (λ _. refl)

abbrev pub graph_code : Coded Graph
graph_code = code_by (List ℕ × map.FinMap nat_cmp Branch) (coded× (coded_list coded_ℕ) (map.code coded_ℕ branch_code))
    (λ g. (g.order, g.nodes)) (λ p. record { order = p.0; nodes = p.1 }) (λ _. refl)
