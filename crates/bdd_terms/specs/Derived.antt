-- What a call leaves that adds one clause to a runner's proof, and deletes none.
use Rattle.std.specs.Prelude.{◌≡◌, ◌≢◌, ◌≤◌, ◌+◌, ◌++◌, ℕ, true, ℤ, List, [], ◌∷◌, Some, Result, Err, IfErr, IfOk}
use Rattle.cnf_base.specs.Cube.{cube_holds, forbidding}
use Rattle.cnf_base.specs.Truth.{Assignment}
use Rattle.lrat_rules.specs.Conservative.{IsAddedBy}
use Rattle.lrat_rules.specs.State.{clause_at}
use Rattle.node_table.specs.declared.error.TableError.{TableError}
use Rattle.node_table.specs.declared.error.TableError.TheVariants.{IdLimit, NodeLimit}
use Rattle.node_table.specs.Progress.{Leaves, error_of}
use Rattle.node_table.specs.Table.{UnlessTorn}
use Rattle.node_table.specs.Tied.{KeepsClauses}
use Rattle.bdd_terms.specs.declared.held.HeldTerm.{HeldTerm}
use Rattle.bdd_terms.specs.declared.runner.Runner.{Runner}
use Rattle.bdd_terms.specs.Runner.{IsRunner, holds_in}

-- The nodes are as they were, all live clauses stay, and one number is given at most. The limit of numbers is met only where none is left.
pub record GoesOn {S T : Type 0} (old new : Runner S) (result : Result T TableError) : Type 0 where
  pub nodes : new.terms.table.graph ≡ old.terms.table.graph
  pub keeps : KeepsClauses old.terms.table.book.state.live new.terms.table.book.state.live
  pub top : new.terms.table.book.state.top ≤ old.terms.table.book.state.top + 1
  pub no_limit : result ≢ Err NodeLimit
  pub spent : result ≡ Err IdLimit → new.terms.table.book.limit ≤ new.terms.table.book.state.top

-- The clause is live under the number that is answered. The terms stay, and unless a write failed the runner goes on.
pub record Derives {S : Type 0} (clause : List ℤ) (old new : Runner S) (result : Result ℕ TableError) : Type 0 where
  pub stands : IfOk result (λ id. clause_at new.terms.table.book.state.live id ≡ Some clause)
  pub runner : UnlessTorn result (IsRunner new)
  pub same : new ≡ record old { terms = record old.terms { table = new.terms.table } }
  pub goes_on : GoesOn old new result
  pub origin : new.terms.table.book.origin ≡ old.terms.table.book.origin
  pub leaves : Leaves old.terms.table new.terms.table (error_of result)

-- No assignment makes the term and the cube true. The clause that forbids the cube is live, a step of the proof adds it, and the runner
-- keeps it behind those of the cubes that were refused before.
pub record Forbids {S : Type 0} (held : HeldTerm) (cube : List ℤ) (old new : Runner S) : Type 0 where
  pub none : (a : Assignment) → holds_in old held a ≡ true → cube_holds a cube ≡ true → ⊥
  pub id : ℕ
  pub stands : clause_at new.terms.table.book.state.live id ≡ Some (forbidding cube)
  pub added : IsAddedBy new.terms.table.book.steps (forbidding cube)
  pub kept : new.refusals.items ≡ old.refusals.items ++ id ∷ []

-- The clause of a cube is added and kept, or the call is refused. The terms stay, and unless a write failed the runner goes on.
pub record Refuses {S T : Type 0} (held : HeldTerm) (cube : List ℤ) (old new : Runner S) (result : Result T TableError) : Type 0 where
  pub forbids : IfOk result (λ done. Forbids held cube old new)
  pub refused : IfErr result (λ e. new.refusals.items ≡ old.refusals.items)
  pub runner : UnlessTorn result (IsRunner new)
  pub same : new ≡ record old { terms = record old.terms { table = new.terms.table }; refusals = new.refusals }
  pub goes_on : GoesOn old new result
  pub origin : new.terms.table.book.origin ≡ old.terms.table.book.origin
  pub leaves : Leaves old.terms.table new.terms.table (error_of result)
