-- Calls that add no clause, as `Runs`, where the nodes that are made are of any functions of a kind, and not of the parts of
-- one alone.
use Rattle.std.specs.Prelude.{◌≡◌, ◌⊎◌, ℕ, Bool, List, Some, Result, Err, IsTrue}
use Rattle.node_table.specs.declared.error.TableError.{TableError}
use Rattle.node_table.specs.declared.error.TableError.TheVariants.{NodeLimit}
use Rattle.node_table.specs.declared.node.Node.{Node}
use Rattle.node_table.specs.declared.node.Branch.{Branch}
use Rattle.node_table.specs.Diagram.{Graph, branch_at, is_node}
use Rattle.node_table.specs.Made.{inner}
use Rattle.node_table.specs.Value.{Levels, value_of}
use Rattle.node_table.specs.Table.{TableState, AddsNone, UnlessTorn}
use Rattle.node_table.specs.Progress.{Steps, error_of}
use Rattle.operations.specs.Entries.{Entry, Fits}
use Rattle.quantify.specs.SomeValues.{function_of}

-- a kind of functions
abbrev pub Kind : Type 1
Kind = (Levels → Bool) → Type 0

-- each node is as it was in the old graph, or its function is of this kind
pub record MakesOnlyOf (old new : Graph) (kind : Kind) : Type 0 where
  pub each : (key : ℕ) (branch : Branch) → branch_at new key ≡ Some branch → (branch_at old key ≡ Some branch)
      ⊎ kind (function_of new (inner key))

-- A function of this kind is that of no node, so of no constant.
pub record LacksOneOf (graph : Graph) (kind : Kind) : Type 0 where
  pub part : Levels → Bool
  pub is_one : kind part
  pub nowhere : (node : Node) → IsTrue (is_node graph node) → ((a : Levels) → value_of graph a node ≡ part a) → ⊥

-- A call for functions of this kind began with this table and these entries, and ended with those and this result. No clause
-- was added but for definitions, none was retired, and each node that was made is of the kind.
pub record RunsFor {S : Type 0} (old : TableState S) (before : List Entry) (kind : Kind) (new : TableState S) (after : List Entry)
    (result : Result Node TableError) : Type 0 where
  pub steps : Steps old new 0 (error_of result)
  pub retired : new.retired ≡ old.retired
  pub none_added : UnlessTorn result (AddsNone old new)
  pub fits : UnlessTorn result (Fits new after)
  pub made : MakesOnlyOf old.graph new.graph kind
  pub lacks : result ≡ Err NodeLimit → LacksOneOf new.graph kind
