-- Sums of variables modulo 2, and the nodes of their diagrams: on each level but the first one node where the sum from there on is
-- odd, and one where it is even. (Bryant: Graph-Based Algorithms for Boolean Function Manipulation, 1986, section 2, whose odd parity
-- function is the sum that is 1.)
use Rattle.std.specs.Prelude.{◌≡◌, ◌≤◌, ◌<◌, ◌+◌, ℕ, Bool, true, false, not, List, [], ◌∷◌, IsTrue, ⊤}
use Rattle.std.specs.Bool.{beq}
use Rattle.node_table.specs.declared.node.Node.{Node}
use Rattle.node_table.specs.Diagram.{Graph, IsBelow, is_node, levels}
use Rattle.node_table.specs.Value.{Levels, value_of}
use Rattle.parity_nodes.specs.declared.sums.Sums.{Sums}

abbrev pub exclusive_or : Bool → Bool → Bool
exclusive_or a b = not (beq a b)

-- whether an odd number of these variables are true: their sum modulo 2
abbrev pub odd_over : List ℕ → (ℕ → Bool) → Bool
odd_over [] a = false
odd_over (variable ∷ more) a = exclusive_or (a variable) (odd_over more a)

-- their sum is this bit
abbrev pub sum_is : Bool → List ℕ → (ℕ → Bool) → Bool
sum_is bit variables a = beq (odd_over variables a) bit

-- The levels rise, from the first that may come, and are below a bound.
abbrev pub AreRising : ℕ → ℕ → List ℕ → Type 0
AreRising first bound [] = ⊤
AreRising first bound (level ∷ more) = (first ≤ level) × ((level < bound) × AreRising (level + 1) bound more)

-- a level before the first of others
abbrev pub IsBeforeLevels : ℕ → List ℕ → Type 0
IsBeforeLevels level [] = ⊤
IsBeforeLevels level (first ∷ more) = level < first

-- The node holds where the sum of these levels' variables is the bit, and stands on the first of them or below.
pub record IsSum (graph : Graph) (set : List ℕ) (bit : Bool) (node : Node) : Type 0 where
  pub stands : IsTrue (is_node graph node)
  pub value : (a : Levels) → value_of graph a node ≡ sum_is bit set a
  pub below : (level : ℕ) → level < levels graph → IsBeforeLevels level set → IsBelow graph level node

-- those of both sums
pub record AreSums (graph : Graph) (set : List ℕ) (sums : Sums) : Type 0 where
  pub odd : IsSum graph set true sums.odd
  pub even : IsSum graph set false sums.even
