-- Nodes counted by the parts of functions: what nodes that are all of parts of some functions say of their number, and of the numbers
-- that a call gives. (Bryant: Graph-Based Algorithms for Boolean Function Manipulation, 1986, section 3.)
use Rattle.std.specs.Prelude.{◌≡◌, ◌≤◌, ◌+◌, ◌*◌, ℕ, Bool, List, Contains, Option, Some, IsTrue}
use Rattle.cnf_base.specs.Truth.{Assignment}
use Rattle.node_table.specs.declared.error.TableError.{TableError}
use Rattle.node_table.specs.declared.node.Node.{Node}
use Rattle.node_table.specs.declared.node.Branch.{Branch}
use Rattle.node_table.specs.Diagram.{Graph, IsOrder, IsReduced, KeepsNodes, branch_at, is_node, levels}
use Rattle.node_table.specs.Made.{Reaches, inner}
use Rattle.node_table.specs.Progress.{Leaves}
use Rattle.node_table.specs.Table.{AddsAtMost, TableState, live_nodes}
use Rattle.node_table.specs.Value.{IsSubfunction, Levels, by_level, value_of}
use Rattle.operations.specs.Budget.{most_additions}
use Rattle.quantify.specs.RunsFor.{LacksOneOf, MakesOnlyOf}
use Rattle.quantify.specs.SomeValues.{function_of}
use Rattle.clause_terms.specs.Term.{by_variable}
use Rattle.bdd_terms.specs.Price.{IsMovePrice}
use Rattle.bdd_terms.specs.Parts.{AreMore}

-- a part of one of these functions
pub record IsPartOfOne (functions : List (Levels → Bool)) (part : Levels → Bool) : Type 0 where
  pub function : Levels → Bool
  pub among : Contains functions function
  pub is_part : IsSubfunction function part

-- A call that makes nodes of parts of these functions alone, of which there are so many at most. Beside them it adds no more than one try
-- of a move does.
pub record IsTry {S : Type 0} (functions : List (Levels → Bool)) (width size : ℕ) (old new : TableState S) (error : Option TableError)
    : Type 0 where
  pub leaves : Leaves old new error
  pub nodes : KeepsNodes old.graph new.graph
  pub made : MakesOnlyOf old.graph new.graph (IsPartOfOne functions)
  pub most : AreMore (IsPartOfOne functions) width → ⊥
  pub adds : AddsAtMost (most_additions (levels old.graph) + 1) old new
  pub pairs : width * width ≤ size → AddsAtMost (2 * (width * width) + 1) old new

pub record Counting (S : Type 0) : Type 0 where
  -- a node's values by levels, where those by assignments are known
  pub by_levels : (graph : Graph) → IsReduced graph → IsOrder graph.order → (node : Node) → IsTrue (is_node graph node)
      → (holds : Assignment → Bool) → ((a : Assignment) → value_of graph (by_level graph.order a) node ≡ holds a)
      → (a : Levels) → value_of graph a node ≡ holds (by_variable graph.order a)
  -- what a node reaches is a part of it
  pub reached : (graph : Graph) → IsReduced graph → (node other : Node) → IsTrue (is_node graph node) → Reaches graph node other
      → IsSubfunction (function_of graph node) (function_of graph other)
  -- where each node is of a part of these functions, and a further part is the function of none, there are more parts than nodes
  pub more : (graph : Graph) → IsReduced graph → (functions : List (Levels → Bool))
      → ((key : ℕ) (branch : Branch) → branch_at graph key ≡ Some branch → IsPartOfOne functions (function_of graph (inner key)))
      → LacksOneOf graph (IsPartOfOne functions) → AreMore (IsPartOfOne functions) (live_nodes graph)
  -- a try makes no more nodes than there are parts,
  pub few : (functions : List (Levels → Bool)) (width size : ℕ) (old new : TableState S) (error : Option TableError)
      → IsTry functions width size old new error → live_nodes new.graph ≤ live_nodes old.graph + width
  -- and gives half of a move's numbers at most
  pub price : (functions : List (Levels → Bool)) (width size price : ℕ) (old new : TableState S) (error : Option TableError)
      → IsTry functions width size old new error → IsMovePrice (levels old.graph) size width price
      → 2 * new.book.state.top ≤ 2 * old.book.state.top + price
