-- What a call that may make nodes and clauses leaves, as it ends in step with the proof or breaks off.
use Rattle.std.specs.Prelude.{◌≡◌, ◌⊎◌, ◌≤◌, ◌<◌, ◌+◌, ◌++◌, ℕ, max, true, false, ℤ, List, [], ◌∷◌, Option, None, Some, Result, Ok, Err}
use Rattle.std.specs.Prelude.{⊤, IsTrue}
use Rattle.cnf_base.specs.declared.step.Step.{Step}
use Rattle.cnf_base.specs.declared.step.Step.TheVariants.{Add, Delete}
use Rattle.lrat_rules.specs.State.{State, clause_at}
use Rattle.lrat_rules.specs.Conservative.{are_conservative}
use Rattle.lrat_rules.specs.Marks.{IsWithin}
use Rattle.clause_ledger.specs.Book.{AreTold, after_steps}
use Rattle.node_table.specs.declared.error.TableError.{TableError}
use Rattle.node_table.specs.declared.error.TableError.TheVariants.{NodeLimit, IdLimit, OutOfMemory, WriteFault}
use Rattle.node_table.specs.Diagram.{IsReduced, levels}
use Rattle.node_table.specs.Tied.{IsUpTo}
use Rattle.node_table.specs.Table.{TableState, IsSound, Extends, AddsAtMost, AddsNoEmpty, last_variable, live_nodes}

-- the greatest number that a table may come to: the one allowed, or where it is already
abbrev pub number_limit : {S : Type 0} → TableState S → ℕ
number_limit table = max table.book.state.top table.book.limit

-- What is live then was live before, with the same literals, or came since.
abbrev pub ComesSince : State → State → Type 0
ComesSince old new = (id : ℕ) (clause : List ℤ) → clause_at new.live id ≡ Some clause → (clause_at old.live id ≡ Some clause)
    ⊎ ((old.top < id) × (id ≤ new.top))

-- A step adds a clause whose variables are up to this one, or deletes.
abbrev pub IsStepUpTo : ℕ → Step → Type 0
IsStepUpTo most (Add id clause hints groups) = IsUpTo most clause
IsStepUpTo most (Delete before ids) = ⊤

abbrev pub AreStepsUpTo : ℕ → List Step → Type 0
AreStepsUpTo most [] = ⊤
AreStepsUpTo most (step ∷ more) = IsStepUpTo most step × AreStepsUpTo most more

-- The table is sound, over the same variables and formula and within the same limits, in step with its proof, which has these
-- steps more, over the variables that may be used. They are conservative: what they say of the formula's variables follows from it.
pub record Continues {S : Type 0} (old new : TableState S) : Type 0 where
  pub sound : IsSound new
  pub order : new.graph.order ≡ old.graph.order
  pub inputs : new.inputs ≡ old.inputs
  pub max_nodes : new.max_nodes ≡ old.max_nodes
  pub limit : new.book.limit ≡ old.book.limit
  pub more : List Step
  pub told : AreTold true old.book new.book more
  pub variables : AreStepsUpTo (last_variable old) more
  pub conserves : IsTrue (are_conservative (levels old.graph) old.book.state more)
  pub no_less : old.book.state.top ≤ new.book.state.top
  pub numbers : new.book.state.top ≤ number_limit old
  pub since : ComesSince old.book.state new.book.state

-- The last of these steps leads to a state within these limits, from one within them. What is live before it comes from the
-- old state, or came since.
pub record IsCutWithin (vars max_ids max_nodes : ℕ) (old after : State) (steps : List Step) : Type 0 where
  pub earlier : List Step
  pub last : Step
  pub parts : steps ≡ earlier ++ last ∷ []
  pub before : State
  pub leads : after_steps old earlier ≡ before
  pub no_less : before.top ≤ after.top
  pub from : old.top ≤ before.top
  pub since : ComesSince old before
  pub within_before : IsWithin vars max_ids max_nodes before
  pub within_after : IsWithin vars max_ids max_nodes after

-- A write failed: the proof has these steps more, whose last line may be cut short, within the limits, with no more extension
-- variables in use than there are nodes. The table is out of step, its nodes still reduced, over the same variables and within
-- the same limits.
pub record BreaksOff {S : Type 0} (old new : TableState S) : Type 0 where
  pub more : List Step
  pub told : AreTold false old.book new.book more
  pub variables : AreStepsUpTo (last_variable old) more
  pub cut : IsCutWithin (levels old.graph) (number_limit old) (live_nodes new.graph) old.book.state new.book.state more
  pub few : live_nodes new.graph ≤ old.max_nodes
  pub out_of_step : new.book.in_step ≡ false
  pub reduced : IsReduced new.graph
  pub order : new.graph.order ≡ old.graph.order
  pub max_nodes : new.max_nodes ≡ old.max_nodes
  pub limit : new.book.limit ≡ old.book.limit
  pub no_less : old.book.state.top ≤ new.book.state.top
  pub numbers : new.book.state.top ≤ number_limit old
  pub since : ComesSince old.book.state new.book.state

-- the error that a call ended with, if with one
abbrev pub error_of : {T E : Type 0} → Result T E → Option E
error_of (Ok answer) = None
error_of (Err error) = Some error

-- in step, unless a write failed; a limit is told only where it is met
abbrev pub Leaves : {S : Type 0} → TableState S → TableState S → Option TableError → Type 0
Leaves old new None = Continues old new
Leaves old new (Some NodeLimit) = Continues old new × (new.max_nodes ≤ live_nodes new.graph)
Leaves old new (Some IdLimit) = Continues old new × (new.book.limit < new.book.state.top + 4)
Leaves old new (Some OutOfMemory) = Continues old new
Leaves old new (Some WriteFault) = BreaksOff old new

-- The steps of an operation, however it ends: nodes and clauses that were there stay, beside those that define new nodes at
-- most so many clauses were added, and none of them is empty.
pub record Steps {S : Type 0} (old new : TableState S) (justified : ℕ) (error : Option TableError) : Type 0 where
  pub leaves : Leaves old new error
  pub extends : Extends old new
  pub adds : AddsAtMost justified old new
  pub no_empty : AddsNoEmpty old new

-- The same where the empty clause may have been added.
pub record StepsOrRefutes {S : Type 0} (old new : TableState S) (justified : ℕ) (error : Option TableError) : Type 0 where
  pub leaves : Leaves old new error
  pub extends : Extends old new
  pub adds : AddsAtMost justified old new
