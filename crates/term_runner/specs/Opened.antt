-- A run's beginning and its end, over the ledger.
use Rattle.std.specs.Prelude.{◌≡◌, ◌≢◌, ◌⊎◌, ◌≤◌, ◌<◌, ◌+◌, ◌++◌, ℕ, ℤ, Bool, true, false, List, [], ◌∷◌, length, Option, None, Some}
use Rattle.std.specs.Prelude.{Result, Ok, Err, IfErr, IfOk, IsFalse, IsSome, IsTrue, MatchOption}
use Rattle.std.specs.List.{list_all}
use Rattle.cnf_base.specs.declared.step.Step.{Step}
use Rattle.cnf_base.specs.Formula.{Formula}
use Rattle.host_io.specs.Channel.{Channel, Rose}
use Rattle.lrat_rules.specs.State.{State, start}
use Rattle.lrat_rules.specs.Derivation.{IsCutProof, IsWritten, text_of}
use Rattle.clause_ledger.specs.Book.{AreTold, Book, IsCutText, IsProofOf, addition, after_steps}
use Rattle.node_table.specs.declared.error.TableError.{TableError}
use Rattle.node_table.specs.Diagram.{levels}
use Rattle.node_table.specs.Progress.{Leaves, error_of}
use Rattle.node_table.specs.Table.{AddsNoEmpty, TableState}
use Rattle.schedule_plan.specs.declared.plan.Move.{Move}
use Rattle.schedule_plan.specs.declared.limits.Limits.{Limits}
use Rattle.term_runner.specs.declared.outcome.Outcome.{Outcome}
use Rattle.term_runner.specs.declared.outcome.Outcome.TheVariants.{IdLimit}
use Rattle.term_runner.specs.declared.outcome.Run.{Run}
use Rattle.bdd_terms.specs.declared.error.RunError.{RunError}
use Rattle.bdd_terms.specs.declared.error.RunError.TheVariants.{WriteFault}
use Rattle.term_runner.specs.Clauses.{first_empty, has_empty_clause, is_tautology}
use Rattle.term_runner.specs.Ends.{EndsFrom, HasLast, Says, ShowsFrom}
use Rattle.term_runner.specs.Nodes.{RunsShort}
use Rattle.term_runner.specs.Price.{AreAmpleFrom, IsDecision, IsLeanAtEnd, IsPaidFrom, IsPaidSince}
use Rattle.bdd_terms.specs.Price.{IsMovePrice}
use Rattle.term_runner.specs.Proofs.{IsBroken, IsBrokenOfKind, KeepsWithin, UsesVariables}
use Rattle.term_runner.specs.Recovered.{IsRecovered}
use Rattle.term_runner.specs.Width.{HasWidth, HasWidthWith, keeps_trail}
use Rattle.bdd_terms.specs.OverFormula.{HasEmpty}
use Rattle.node_table.specs.declared.error.TableError.TheVariants as table

-- What stands behind a ledger over these clauses, whose sink had no bytes: the lines of its steps, which prove what is live; out
-- of step the last one may be cut short.
pub record IsBehind {S : Type 0} (tells : Bool) (before after : Channel) (clauses : List (List ℤ)) (book : Book S) : Type 0 where
  pub proof : IsProofOf clauses book.steps book.state
  pub text : IsTrue tells → IsTrue book.in_step → after.written ≡ text_of book.steps
  pub spelled : IsTrue tells → (after.written ≡ text_of book.steps) ⊎ IsCutText book.steps after.written
  pub cut : IsTrue tells → book.in_step ≡ false → (earlier : List Step) (last : Step) → book.steps ≡ earlier ++ last ∷ []
      → IsCutProof clauses after.written (after_steps (start clauses) earlier) book.state
  pub name : after.name ≡ before.name
  pub faults : before.faults ≤ after.faults
  pub unfailed : IsTrue book.in_step → after.faults ≡ before.faults
  pub rose : book.in_step ≡ false → Rose before.faults after.faults

-- The result stands after a flush that didn't fail, or the flush failed; no byte changed.
pub record IsFlushed (tells : Bool) (before after : Channel) (found result : Result Run RunError) : Type 0 where
  pub ends : ((result ≡ found) × (IsTrue tells → after.flushed ≡ length after.written) × (after.faults ≡ before.faults))
      ⊎ ((result ≡ Err WriteFault) × Rose before.faults after.faults)
  pub written : after.written ≡ before.written
  pub name : after.name ≡ before.name
  pub faults : before.faults ≤ after.faults

-- these steps were told, the line of the last one cut short, and the states before it and behind it are of this kind
pub record BreaksKind {S : Type 0} (kind : State → Type 0) (old new : Book S) : Type 0 where
  pub more : List Step
  pub told : AreTold false old new more
  pub earlier : List Step
  pub last : Step
  pub parts : more ≡ earlier ++ last ∷ []
  pub before : State
  pub leads : after_steps old.state earlier ≡ before
  pub within_before : kind before
  pub within_after : kind new.state

-- The state that a call left is of this kind; after a failed write, so are those before and behind the line that it cut.
abbrev pub LeavesKind : {S : Type 0} → TableState S → TableState S → (State → Type 0) → Option TableError → Type 0
LeavesKind old new kind None = kind new.book.state
LeavesKind old new kind (Some table.NodeLimit) = kind new.book.state
LeavesKind old new kind (Some table.IdLimit) = kind new.book.state
LeavesKind old new kind (Some table.OutOfMemory) = kind new.book.state
LeavesKind old new kind (Some table.WriteFault) = BreaksKind kind old.book new.book

-- What was found of a formula: a model, or None where the empty clause was added. Where all clauses are tautologies nothing is done. Where
-- one is empty it refutes the formula by one line, unless no number is left. However it ends, it keeps within the price of the plan's
-- width, behind the numbers that were given before; with a model few clauses are left. At the limit of nodes one that is wanted is
-- refused for want of room. A refusal leaves the formula unrefuted.
pub record Decides {S : Type 0} (formula : Formula) (moves : List Move) (size : ℕ) (old new : TableState S)
    (result : Result (Option (List Bool)) TableError) : Type 0 where
  pub found : IfOk result (λ found. MatchOption found (HasEmpty new) (λ model. IsRecovered formula old.graph.order moves model))
  pub leaves : Leaves old new (error_of result)
  pub tautologies : IsTrue (list_all is_tautology formula.clauses) → new ≡ old
  pub open_clause : (result ≡ Err table.NodeLimit) ⊎ (result ≡ Err table.IdLimit) → IsFalse (list_all is_tautology formula.clauses)
  pub none_empty : result ≡ Err table.NodeLimit → IsFalse (has_empty_clause formula.clauses)
  pub at_limit : result ≡ Err table.IdLimit → IsTrue (has_empty_clause formula.clauses) → new.book.limit ≤ old.book.state.top
  pub one_line : result ≡ Ok None → IsTrue (has_empty_clause formula.clauses) → old.book.state.top ≡ old.inputs
      → AreTold true old.book new.book (addition old.book.state [] (first_empty formula.clauses ∷ []) ∷ [])
  pub paid : (width price : ℕ) → HasWidth formula old.graph.order moves width → IsMovePrice (levels old.graph) size width price
      → LeavesKind old new (IsPaidSince (levels old.graph) old.inputs old.book.state.top (length moves) size width price) (error_of result)
  pub lean : IfOk result (λ found. IsSome found → (old.book.state.top ≡ old.inputs) ⊎ IsFalse (list_all is_tautology formula.clauses)
      → IsLeanAtEnd (levels old.graph) old.inputs size new.book.state)
  pub short : result ≡ Err table.NodeLimit → RunsShort (keeps_trail old.max_nodes) formula old.graph.order moves new.graph
  pub no_empty : IfErr result (λ e. e ≢ table.WriteFault → AddsNoEmpty old new)

-- What the moves led to, before the proof is flushed: each outcome is true, and shown by what was written. Other calls gave numbers up
-- to the first one.
pub record Leads {S : Type 0} (first : ℕ) (tells : Bool) (before after : Channel) (formula : Formula) (order : List ℕ) (moves : List Move)
    (limits : Limits) (book : Book S) (found : Result Outcome RunError) : Type 0 where
  pub in_step : found ≢ Err WriteFault → IsTrue book.in_step
  pub written : found ≢ Err WriteFault → IsTrue tells → IsWritten formula.clauses after.written book.state
  pub within : found ≢ Err WriteFault → KeepsWithin formula limits book.state
  pub broken : found ≡ Err WriteFault → IsTrue tells → IsBroken formula limits after.written
  pub variables : IsTrue tells → UsesVariables (formula.vars + limits.max_nodes) after.written
  -- the same by the price of the plan's width
  pub paid : (width price : ℕ) → HasWidth formula order moves width → IsMovePrice formula.vars limits.cache width price → found
      ≢ Err WriteFault → IsPaidFrom first formula limits moves width price book.state
  pub broken_paid : (width price : ℕ) → HasWidth formula order moves width → IsMovePrice formula.vars limits.cache width price → found
      ≡ Err WriteFault → IsTrue tells
      → IsBrokenOfKind formula.clauses (IsPaidFrom first formula limits moves width price) after.written
  pub certain : (width price : ℕ) → HasWidthWith (keeps_trail limits.max_nodes) formula order moves width
      → IsMovePrice formula.vars limits.cache width price → AreAmpleFrom first limits moves width price → IfOk found IsDecision
  pub says : IfOk found (Says formula order moves limits)
  pub shows : IsTrue tells → IfOk found (ShowsFrom first formula limits after.written)
  pub spent : IfOk found (λ outcome. outcome ≡ IdLimit → limits.max_ids < book.state.top + 4)
  pub fault : found ≡ Err WriteFault → Rose before.faults after.faults
  pub unfailed : found ≢ Err WriteFault → after.faults ≡ before.faults
  pub tautologies : IsTrue (list_all is_tautology formula.clauses) → after.written ≡ before.written
  pub name : after.name ≡ before.name
  pub faults : before.faults ≤ after.faults

-- A run behind other calls ends so, and with an outcome this holds of its last number.
pub record EndsWithinFrom (first : ℕ) (tells : Bool) (before after : Channel) (formula : Formula) (order : List ℕ) (moves : List Move)
    (limits : Limits) (result : Result Run RunError) : Type 0 where
  pub ends : EndsFrom first tells before after formula order moves limits result
  pub last : IfOk result (HasLast formula limits)
