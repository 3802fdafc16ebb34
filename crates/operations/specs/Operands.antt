-- The two operands of an operation, split by the earlier of their variables. (Bryant: Graph-Based Algorithms for Boolean
-- Function Manipulation, 1986, section 4.3: apply.)
use Rattle.std.proofs.Common.{arith, inl, inr}
use Rattle.std.specs.Prelude.{◌≡◌, ◌≢◌, ◌⊎◌, ◌<◌, ◌≤◌, ◌-◌, ℕ, min, Some, IsTrue}
use Rattle.node_table.specs.declared.node.Node.{Node}
use Rattle.node_table.specs.declared.node.Branch.{Branch}
use Rattle.node_table.specs.Diagram.{Graph, IsReduced, IsBelow, KeepsNodes, branch_of, is_node, levels, level_of, high_at, low_at}
use Rattle.operations.specs.declared.operands.Operands.{Operands}

-- an inner node of the graph
pub record IsInner (graph : Graph) (node : Node) : Type 0 where
  pub branch : Branch
  pub is : branch_of graph node ≡ Some branch

-- Two inner nodes that differ, the level of the earlier one, and their cofactors there.
pub record AreSplit (graph : Graph) (o : Operands) : Type 0 where
  pub first : IsInner graph o.u
  pub second : IsInner graph o.v
  pub differ : o.u ≢ o.v
  pub first_below : o.level ≤ level_of graph o.u
  pub second_below : o.level ≤ level_of graph o.v
  pub earlier : (level_of graph o.u ≡ o.level) ⊎ (level_of graph o.v ≡ o.level)
  pub first_high : o.u_high ≡ high_at graph o.level o.u
  pub first_low : o.u_low ≡ low_at graph o.level o.u
  pub second_high : o.v_high ≡ high_at graph o.level o.v
  pub second_low : o.v_low ≡ low_at graph o.level o.v

-- how many levels there are from the earlier of two nodes on
abbrev pub levels_from : Graph → Node → Node → ℕ
levels_from graph u v = levels graph - min (level_of graph u) (level_of graph v)

-- What a split says: its operands stand in the graph, at or below its level, and their cofactors below it, so that there
-- are fewer levels from these on. It stays one as the graph grows.
pub record Splitting : Type 0 where
  pub first : (graph : Graph) (o : Operands) → AreSplit graph o → IsTrue (is_node graph o.u)
  pub second : (graph : Graph) (o : Operands) → AreSplit graph o → IsTrue (is_node graph o.v)
  pub level : (graph : Graph) → IsReduced graph → (o : Operands) → AreSplit graph o → o.level < levels graph
  pub u_high : (graph : Graph) → IsReduced graph → (o : Operands) → AreSplit graph o → IsBelow graph o.level o.u_high
  pub u_low : (graph : Graph) → IsReduced graph → (o : Operands) → AreSplit graph o → IsBelow graph o.level o.u_low
  pub v_high : (graph : Graph) → IsReduced graph → (o : Operands) → AreSplit graph o → IsBelow graph o.level o.v_high
  pub v_low : (graph : Graph) → IsReduced graph → (o : Operands) → AreSplit graph o → IsBelow graph o.level o.v_low
  pub fewer : (graph : Graph) → IsReduced graph → (o : Operands) → AreSplit graph o → (u v : Node) → IsBelow graph o.level u
      → IsBelow graph o.level v → levels_from graph u v < levels_from graph o.u o.v
  pub kept : (old new : Graph) → KeepsNodes old new → (o : Operands) → AreSplit old o → AreSplit new o

-- the earlier of two levels below one is below it
pub both_later : (level one two : ℕ) → level < one → level < two → level < min one two
both_later level one two first second = omega (arith, first, second)

-- the level of a split is the earlier one of its operands
pub no_later : (graph : Graph) (o : Operands) → AreSplit graph o → min (level_of graph o.u) (level_of graph o.v) ≤ o.level
no_later graph o split = lesser (level_of graph o.u) (level_of graph o.v) o.level split.earlier
  where
    lesser : (one two level : ℕ) → (one ≡ level) ⊎ (two ≡ level) → min one two ≤ level
    lesser one two level (inl is) = omega (arith, is)
    lesser one two level (inr is) = omega (arith, is)
