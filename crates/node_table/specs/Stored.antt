-- How the nodes of a table are stored: in six words each, under their keys in a slab, beside an index of their levels and
-- children. Extension variables that were given and are no node's are free, and the least free one is given next.
use Rattle.std.specs.Prelude.{◌≡◌, ◌<◌, ◌≤◌, ◌+◌, ◌-◌, ◌*◌, ◌^◌, ◌⊎◌, ℕ, zero, suc, List, [], ◌∷◌, ◌++◌, Contains, length, slice_index_or}
use Rattle.std.specs.Prelude.{Option, None, Some, refl}
use Rattle.std.proofs.Common.{arith}
use Rattle.std.specs.FinMap as map
use Rattle.slab.specs.Slab.{Slab, get, slab_len}
use Rattle.cnf_base.specs.ProofText.{max_id}
use Rattle.cnf_base.specs.Limits.{max_vars, most_nodes_allowed}
use Rattle.node_table.specs.declared.node.Node.{Node}
use Rattle.node_table.specs.declared.node.Node.TheVariants.{False, True, Inner}
use Rattle.node_table.specs.declared.node.Branch.{Branch}
use Rattle.node_table.specs.declared.stored.Child.{Child}
use Rattle.node_table.specs.declared.stored.Halves.{Halves}
use Rattle.node_table.specs.declared.stored.StoredNode.{StoredNode}
use Rattle.node_table.specs.declared.index.Index.{Index}
use Rattle.node_table.specs.Index.{IsIndexOf}
use Rattle.node_table.specs.Diagram.{Graph, IsOrder, IsReduced}

-- the node that a child's word stands for
abbrev pub node_of_word : ℕ → Node
node_of_word zero = False
node_of_word (suc zero) = True
node_of_word (suc (suc key)) = Inner (record { index = key })

abbrev pub word_of_node : Node → ℕ
word_of_node False = 0
word_of_node True = 1
word_of_node (Inner key) = key.index + 2

abbrev pub child_of : Node → Child
child_of node = record { word = word_of_node node }

word_back : (word : ℕ) → word_of_node (node_of_word word) ≡ word
word_back zero = refl
word_back (suc zero) = refl
word_back (suc (suc key)) = omega arith

-- a child is known by the node of its word
pub child_of_word : (child : Child) → child_of (node_of_word child.word) ≡ child
child_of_word child = λ i. record { word = word_back child.word i }

-- a constant, or a node whose key fits a child's word
abbrev pub HasSmallKey : Node → Type 0
HasSmallKey False = Unit {0}
HasSmallKey True = Unit {0}
HasSmallKey (Inner key) = key.index < most_nodes_allowed

-- the number of two halves
abbrev pub number_of : Halves → ℕ
number_of halves = halves.high * 2 ^ 32 + halves.low

-- the node of the words
abbrev pub branch_in : StoredNode → Branch
branch_in node = record {
  level = node.level;
  variable = node.variable;
  high = node_of_word node.high.word;
  low = node_of_word node.low.word;
  first = number_of node.first;
}

-- Each stored node under its key, the first of which is this one.
abbrev pub keyed_from : ℕ → List (Option StoredNode) → List (ℕ × Branch)
keyed_from key [] = []
keyed_from key (None ∷ slots) = keyed_from (key + 1) slots
keyed_from key (Some node ∷ slots) = (key, branch_in node) ∷ keyed_from (key + 1) slots

abbrev pub graph_of : List ℕ → List (Option StoredNode) → Graph
graph_of order slots = record { order = order; nodes = map.from_entries (keyed_from 0 slots) }

-- the place of each variable in the order
pub record ArePlaces (order places : List ℕ) : Type 0 where
  pub one_each : length places ≡ length order
  pub placed : (place : ℕ) → place < length order → slice_index_or places (slice_index_or order place 0 - 1) 0 ≡ place

-- The stored nodes are a reduced graph over an order, within the limits of variables, nodes and clause numbers, and the
-- index finds them.
pub record IsStored (order places : List ℕ) (index : Index) (nodes : Slab StoredNode) : Type 0 where
  pub ordered : IsOrder order
  pub few_levels : length order ≤ max_vars
  pub few_nodes : slab_len nodes ≤ most_nodes_allowed
  pub inverse : ArePlaces order places
  pub reduced : IsReduced (graph_of order nodes.slots)
  pub small_keys : (key : ℕ) (node : StoredNode) → get nodes key ≡ Some node → key < most_nodes_allowed
  pub firsts : (key : ℕ) (node : StoredNode) → get nodes key ≡ Some node → number_of node.first ≤ max_id + 1
  pub indexed : IsIndexOf index nodes

-- each number is greater than the next one
abbrev pub IsFalling : List ℕ → Type 0
IsFalling numbers = (k : ℕ) → k + 1 < length numbers → slice_index_or numbers (k + 1) 0 < slice_index_or numbers k 0

-- an extension variable is that of a stored node
pub record IsStoredAs (nodes : Slab StoredNode) (variable : ℕ) : Type 0 where
  pub key : ℕ
  pub node : StoredNode
  pub stands : get nodes key ≡ Some node
  pub own : node.variable ≡ variable

-- The numbers above the formula's variables and below the next one are the extension variables that were given: those of
-- stored nodes, and the free ones, the least of which is the last. There is room for all of them to be free.
pub record HasVariables (levels next : ℕ) (free : List ℕ) (capacity : ℕ) (nodes : Slab StoredNode) : Type 0 where
  pub stored : (key : ℕ) (node : StoredNode) → get nodes key ≡ Some node → (levels < node.variable) × (node.variable < next)
  pub falling : IsFalling free
  pub within : (variable : ℕ) → Contains free variable → (levels < variable) × (variable < next)
  pub unowned : (key : ℕ) (node : StoredNode) → get nodes key ≡ Some node → Contains free node.variable → ⊥
  pub covered : (variable : ℕ) → levels < variable → variable < next → Contains free variable ⊎ IsStoredAs nodes variable
  pub counted : next ≡ levels + 1 + slab_len nodes + length free
  pub few : next ≤ levels + 100000001
  pub room : next ≤ levels + 1 + capacity

-- The last free variable was taken, or where none is free the next one, the one after which comes next then.
abbrev pub Takes : List ℕ → ℕ → List ℕ → ℕ → ℕ → Type 0
Takes free next left after variable = ((free ≡ left ++ variable ∷ []) × (after ≡ next))
    ⊎ ((free ≡ []) × (left ≡ []) × (variable ≡ next) × (after ≡ next + 1))
