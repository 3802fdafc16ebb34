-- Sums of nodes on the proof, and steps that add clauses alone.
use Rattle.std.specs.Prelude.{◌≡◌, ◌≢◌, ◌⊎◌, ◌≤◌, ◌+◌, ℕ, ℤ, List, [], Result, Err, Some, IsOk, is_some}
use Rattle.std.specs.FinMap as map
use Rattle.std.specs.Ordering.{nat_cmp}
use Rattle.lrat_rules.specs.State.{Live, clause_at}
use Rattle.hint_chain.specs.Atoms.{clause_from_atoms}
use Rattle.node_table.specs.declared.error.TableError.{TableError}
use Rattle.node_table.specs.declared.error.TableError.TheVariants.{IdLimit, NodeLimit}
use Rattle.node_table.specs.declared.node.Branch.{Branch}
use Rattle.node_table.specs.Defined.{one_if}
use Rattle.node_table.specs.Diagram.{Graph, branch_at}
use Rattle.node_table.specs.Made.{inner}
use Rattle.node_table.specs.Marks.{IsReached}
use Rattle.node_table.specs.Progress.{error_of}
use Rattle.node_table.specs.Table.{UnlessTorn, live_nodes}
use Rattle.node_table.specs.Tied.{KeepsClauses}
use Rattle.cube_models.specs.Denied.{AreSums, sum_atoms}
use Rattle.bdd_terms.specs.declared.runner.Runner.{Runner}
use Rattle.bdd_terms.specs.Runner.{IsRunner, nodes_of}
use Rattle.cube_queries.specs.Steps.{Goes, IsSpent}

-- Clauses are added, so many at most, beside the same terms and nodes. None is deleted, no limit of nodes is met, and that
-- of numbers only where none is left.
pub record Adds {S T : Type 0} (most : ℕ) (old new : Runner S) (result : Result T TableError) : Type 0 where
  pub goes_on : UnlessTorn result (IsRunner new)
  pub out : new.terms.out.items ≡ old.terms.out.items
  pub nodes : new.terms.table.graph ≡ old.terms.table.graph
  pub clauses : KeepsClauses old.terms.table.book.state.live new.terms.table.book.state.live
  pub top : new.terms.table.book.state.top ≤ old.terms.table.book.state.top + most
  pub goes : Goes old new (error_of result)
  pub no_limit : result ≢ Err NodeLimit
  pub spent : result ≡ Err IdLimit → IsSpent new

-- this is the number of the sum of a node, if it has one
abbrev pub IsSumAt : Graph → Live → ℕ → ℕ → Type 0
IsSumAt graph live key id = (branch : Branch) (clause : List ℤ) → branch_at graph key ≡ Some branch
    → clause_from_atoms (sum_atoms graph branch) ≡ Some clause → clause_at live id ≡ Some clause

-- one for a key that a node has
abbrev pub one_at : map.FinMap nat_cmp Branch → ℕ → ℕ
one_at nodes key = one_if (is_some (map.get nodes key))

-- none yet, or those of all nodes
abbrev pub AreReady : Graph → Live → List ℕ → Type 0
AreReady graph live sums = (sums ≡ []) ⊎ AreSums graph live sums

-- A cube takes one number, and those of the sums where there are none yet: these are added once.
pub record AddsOnce {S T : Type 0} (before after : List ℕ) (old new : Runner S) (result : Result T TableError) : Type 0 where
  pub most : new.terms.table.book.state.top ≤ old.terms.table.book.state.top + live_nodes old.terms.table.graph + 1
  pub there : before ≢ [] → new.terms.table.book.state.top ≤ old.terms.table.book.state.top + 1
  pub stay : before ≢ [] → after ≢ []
  pub none : IsOk result → after ≡ [] → new.terms.table.book.state.top ≤ old.terms.table.book.state.top + 1

-- each node is one that a term reaches
abbrev pub AreAllReached : {S : Type 0} → Runner S → Type 0
AreAllReached runner = (key : ℕ) (branch : Branch) → branch_at runner.terms.table.graph key ≡ Some branch
    → IsReached runner.terms.table.graph (nodes_of runner.terms.out.items) (inner key)
