-- The limit of nodes, met behind a reclamation: no more nodes could be given back.
use Rattle.std.specs.Prelude.{◌≡◌, ◌≤◌, ℕ, Bool, List, Some}
use Rattle.node_table.specs.declared.node.Branch.{Branch}
use Rattle.node_table.specs.Diagram.{Graph, branch_at}
use Rattle.node_table.specs.Made.{LacksPart, MakesOnly, inner}
use Rattle.node_table.specs.Marks.{IsReached}
use Rattle.node_table.specs.Table.{live_nodes}
use Rattle.node_table.specs.Value.{Levels}
use Rattle.bdd_terms.specs.declared.held.HeldTerm.{HeldTerm}
use Rattle.bdd_terms.specs.declared.runner.Runner.{Runner}
use Rattle.bdd_terms.specs.Runner.{nodes_of}

-- A call met the limit: the nodes that it made are of parts of one function, and a part of this is the function of no node.
pub record Lacks (before after : Graph) : Type 0 where
  pub function : Levels → Bool
  pub made : MakesOnly before after function
  pub lacks : LacksPart after function

-- It met it where each node was reached from a term that was out.
pub record LacksBehind (graph : Graph) : Type 0 where
  pub out : List HeldTerm
  pub before : Graph
  pub reached : (key : ℕ) (branch : Branch) → branch_at before key ≡ Some branch → IsReached before (nodes_of out) (inner key)
  pub lacking : Lacks before graph

-- There are as many nodes as may be, so many are wanted, and one more.
pub record IsFull {S : Type 0} (runner : Runner S) : Type 0 where
  pub full : runner.terms.table.max_nodes ≤ live_nodes runner.terms.table.graph
  pub wanted : LacksBehind runner.terms.table.graph
