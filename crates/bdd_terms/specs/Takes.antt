-- What a call of a runner leaves that gives a term. Where it meets the limit of nodes it is tried once more behind a reclamation, and where
-- it leaves many nodes they are given back behind it, as between two moves of a plan. So nodes may go, but for those of the terms.
use Rattle.std.specs.Prelude.{◌≡◌, ◌≢◌, ◌⊎◌, ◌≤◌, ◌+◌, ℕ, Bool, List, [], Contains, Option, Some, Result, Err, IfErr, IfOk, IsErr, IsTrue}
use Rattle.std.specs.Prelude.{OnErr, OnOk, map}
use Rattle.cnf_base.specs.Truth.{Assignment}
use Rattle.node_table.specs.declared.error.TableError.{TableError}
use Rattle.node_table.specs.declared.error.TableError.TheVariants.{NodeLimit, OutOfMemory, WriteFault}
use Rattle.node_table.specs.declared.node.Node.TheVariants.{False}
use Rattle.node_table.specs.Diagram.{levels}
use Rattle.node_table.specs.Progress.{Leaves, error_of}
use Rattle.node_table.specs.Table.{UnlessTorn, live_nodes}
use Rattle.node_table.specs.Value.{Levels, value_of}
use Rattle.clause_terms.specs.Term.{by_variable}
use Rattle.bdd_terms.specs.declared.held.HeldTerm.{HeldTerm}
use Rattle.bdd_terms.specs.declared.runner.Runner.{Runner}
use Rattle.bdd_terms.specs.declared.term.Term.{Term}
use Rattle.bdd_terms.specs.Counting.{IsPartOfOne}
use Rattle.bdd_terms.specs.Full.{IsFull}
use Rattle.bdd_terms.specs.Price.{IsMovePrice}
use Rattle.bdd_terms.specs.Runner.{IsGood, IsListed, IsRunner, IsSameRun, holds_in, nodes_of}
use Rattle.bdd_terms.specs.Tidy.{IsTidy, LeavesReached}
use Rattle.bdd_terms.specs.Parts.{AreMore, HasAtMost}

-- a term's function by levels, those of all terms that are out, and that of a term that is asked for
abbrev pub function_in : {S : Type 0} → Runner S → HeldTerm → Levels → Bool
function_in runner held a = value_of runner.terms.table.graph a held.node

abbrev pub functions_out : {S : Type 0} → Runner S → List (Levels → Bool)
functions_out runner = map (function_in runner) runner.terms.out.items

abbrev pub asked_in : {S : Type 0} → Runner S → (Assignment → Bool) → Levels → Bool
asked_in runner holds a = holds (by_variable runner.terms.table.graph.order a)

-- the terms that may be taken may be taken yet, and keep their values
pub record KeepsTerms {S : Type 0} (old new : Runner S) : Type 0 where
  pub good : (held : HeldTerm) → IsGood old held → IsGood new held
  pub values : (held : HeldTerm) → IsGood old held → (a : Assignment) → holds_in new held a ≡ holds_in old held a

-- A reclamation: nodes that no term reaches that is out are given back with their clauses, so many. Want of memory changes nothing.
pub record GivesBack {S : Type 0} (old new : Runner S) (result : Result ℕ TableError) : Type 0 where
  pub goes_on : UnlessTorn result (IsRunner new)
  pub reached : OnOk result (LeavesReached old.terms.table.graph new.terms.table.graph (nodes_of old.terms.out.items))
  pub count : IfOk result (λ count. live_nodes new.terms.table.graph + count ≡ live_nodes old.terms.table.graph)
  pub left : OnOk result (new.terms.left ≡ live_nodes new.terms.table.graph)
  pub settled : OnOk result (new.terms.table.retired ≡ [])
  pub memory : result ≡ Err OutOfMemory → new.terms.table ≡ old.terms.table
  pub kept : OnErr result ((new.terms.table.graph ≡ old.terms.table.graph) × (new.terms.left ≡ old.terms.left))
  pub top : new.terms.table.book.state.top ≡ old.terms.table.book.state.top
  pub out : new.terms.out ≡ old.terms.out
  pub refuted : new.refuted ≡ old.refuted
  pub same : IsSameRun old new
  pub leaves : Leaves old.terms.table new.terms.table (error_of result)
  pub error : IfErr result (λ e. (e ≡ OutOfMemory) ⊎ (e ≡ WriteFault))

-- The call gives a term that holds where this does. Unless a write failed, the runner goes on with all the terms that were out; the new one
-- is behind them, with a unit of its own, and it is False exactly where the empty clause was added. The limit of nodes is met behind a
-- reclamation alone.
pub record Takes {S : Type 0} (holds : Assignment → Bool) (old new : Runner S) (result : Result Term TableError) : Type 0 where
  pub goes_on : UnlessTorn result (IsRunner new)
  pub value : IfOk result (λ term. (a : Assignment) → holds_in new term.held a ≡ holds a)
  pub listed : IfOk result (λ term. IsListed old.terms.out.items new.terms.out.items term.held)
  pub refused : UnlessTorn result (IsErr result → new.terms.out.items ≡ old.terms.out.items)
  pub refutes : IfOk result (λ term. term.held.node ≡ False → IsTrue new.refuted)
  pub unrefuted : UnlessTorn result (IfOk result (λ term. term.held.node ≢ False) → new.refuted ≡ old.refuted)
  pub keeps : UnlessTorn result (KeepsTerms old new)
  pub same : IsSameRun old new
  pub order : new.terms.table.graph.order ≡ old.terms.table.graph.order
  pub leaves : Leaves old.terms.table new.terms.table (error_of result)
  pub full : result ≡ Err NodeLimit → IsFull new

-- What a call costs, however it ends, with these functions in hand. At the limit of nodes more parts of them differ than nodes are allowed.
-- Where each has few parts no more numbers are given than a move's price. What the last reclamation left are no more nodes than parts.
pub record Costs {S : Type 0} (functions : List (Levels → Bool)) (old new : Runner S) (error : Option TableError) : Type 0 where
  pub short : error ≡ Some NodeLimit → AreMore (IsPartOfOne functions) old.limits.max_nodes
  pub paid : (width price : ℕ) → ((function : Levels → Bool) → Contains functions function → HasAtMost function width)
      → IsMovePrice (levels old.terms.table.graph) old.limits.cache width price
      → new.terms.table.book.state.top ≤ old.terms.table.book.state.top + price
  pub left : (width : ℕ) → (AreMore (IsPartOfOne functions) width → ⊥) → (new.terms.left ≡ old.terms.left) ⊎ (new.terms.left ≤ width)

-- There are few nodes behind a call that gave a term, unless it refutes the formula.
abbrev pub IsTidied : {S : Type 0} → Runner S → Term → Type 0
IsTidied runner term = term.held.node ≢ False → IsTidy (live_nodes runner.terms.table.graph) runner.terms.left
