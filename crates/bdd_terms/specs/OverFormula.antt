-- A table over a formula: its clauses are live, and the proof so far is within the limits.
use Rattle.std.specs.Prelude.{◌≡◌, ◌<◌, ◌+◌, ℕ, List, [], length, Some, slice_index_or, ◌≤◌, max, IsTrue}
use Rattle.cnf_base.specs.Formula.{Formula}
use Rattle.lrat_rules.specs.State.{clause_at, start}
use Rattle.node_table.specs.Diagram.{levels}
use Rattle.node_table.specs.Table.{TableState, IsSound}
use Rattle.operations.specs.Entries.{Entry, Fits}
use Rattle.cnf_base.specs.Truth.{AreClausesOf}
use Rattle.lrat_rules.specs.Conservative.{are_conservative}
use Rattle.clause_ledger.specs.Book.{Book, after_steps}
use Rattle.node_table.specs.Progress.{AreStepsUpTo}
use Rattle.schedule_plan.specs.declared.limits.Limits.{Limits}
use Rattle.schedule_plan.specs.Limits.{AreLimits}
use Rattle.bdd_terms.specs.declared.caches.Caches.{Caches}
use Rattle.bdd_terms.specs.Caches.{HaveSize}
use Rattle.node_table.specs.declared.error.TableError.TheVariants as table

-- The table is sound, the entries of the caches fit it, and the clauses of the formula are live under 1, 2, ..
pub record IsOver {S : Type 0} (formula : Formula) (table : TableState S) (kept : List Entry) : Type 0 where
  pub sound : IsSound table
  pub fits : Fits table kept
  pub inputs : (i : ℕ) → i < length formula.clauses → clause_at table.book.state.live (i + 1) ≡ Some (slice_index_or formula.clauses i [])
  pub counted : table.inputs ≡ length formula.clauses
  pub vars : levels table.graph ≡ formula.vars

-- a ledger as it was opened over a formula: its clauses, over its variables, are live, and no step was told
pub record IsOpened {S : Type 0} (formula : Formula) (max_ids : ℕ) (book : Book S) : Type 0 where
  pub literals : AreClausesOf formula.vars formula.clauses
  pub of_formula : book.formula ≡ formula.clauses
  pub steps : book.steps ≡ []
  pub state : book.state ≡ start formula.clauses
  pub limit : book.limit ≡ max_ids
  pub in_step : IsTrue book.in_step

-- The proof so far is of the formula, and within the limits. Its steps are conservative.
pub record IsWithinLimits {S : Type 0} (formula : Formula) (limits : Limits) (table : TableState S) (caches : Caches) : Type 0 where
  pub allowed : AreLimits limits
  pub of_formula : table.book.formula ≡ formula.clauses
  pub max_ids : table.book.limit ≡ limits.max_ids
  pub max_nodes : table.max_nodes ≡ limits.max_nodes
  pub size : HaveSize caches limits.cache
  pub numbers : table.book.state.top ≤ max (length formula.clauses) limits.max_ids
  pub variables : AreStepsUpTo (formula.vars + limits.max_nodes) table.book.steps
  pub leads : after_steps (start formula.clauses) table.book.steps ≡ table.book.state
  pub conserves : IsTrue (are_conservative formula.vars (start formula.clauses) table.book.steps)

-- an empty clause is live that was added
pub record HasEmpty {S : Type 0} (table : TableState S) : Type 0 where
  pub id : ℕ
  pub above : table.inputs < id
  pub empty : clause_at table.book.state.live id ≡ Some []
