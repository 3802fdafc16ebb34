-- How a run of a plan ends, over the sink that takes its proof.
use Rattle.std.specs.Prelude.{◌≡◌, ◌≢◌, ◌⊎◌, ◌<◌, ◌≤◌, ◌+◌, ℕ, max, Bool, List, length, Result, Ok, Err, Option, None, Some, IfOk, IsOk, IsTrue, IsFalse, ⊤}
use Rattle.std.specs.List.{list_all}
use Rattle.cnf_base.specs.Formula.{Formula}
use Rattle.host_io.specs.Channel.{Channel, Rose}
use Rattle.lrat_rules.specs.State.{State}
use Rattle.schedule_plan.specs.declared.plan.Move.{Move}
use Rattle.schedule_plan.specs.declared.limits.Limits.{Limits}
use Rattle.node_table.specs.declared.error.TableError.{TableError}
use Rattle.bdd_terms.specs.declared.error.RunError.{RunError}
use Rattle.bdd_terms.specs.declared.error.RunError.TheVariants.{OutOfMemory, WriteFault}
use Rattle.term_runner.specs.declared.outcome.Outcome.{Outcome}
use Rattle.term_runner.specs.declared.outcome.Outcome.TheVariants.{Unsat, Sat, NodeLimit, IdLimit}
use Rattle.term_runner.specs.declared.outcome.Run.{Run}
use Rattle.term_runner.specs.Clauses.{is_tautology}
use Rattle.term_runner.specs.Proofs.{AreUnsatisfiable, IsProof, IsProofOfKind, IsProofSoFar, IsProofSoFarOfKind, LeadsTo, Refutation}
use Rattle.term_runner.specs.Proofs.{NodesAreUsed, NumbersAreUsed, NumbersAreUsedFrom, RefutationFrom, UsesVariables}
use Rattle.term_runner.specs.Recovered.{IsRecovered}
use Rattle.term_runner.specs.Price.{AreAmple, AreAmpleFrom, IsDecision, IsLeanAtEnd, IsPaidFor, IsPaidFrom}
use Rattle.bdd_terms.specs.Price.{IsMovePrice}
use Rattle.term_runner.specs.Width.{HasWidth, HasWidthWith, IsWiderWith, keeps_trail}
use Rattle.node_table.specs.declared.error.TableError.TheVariants as table

-- What an outcome says of the formula: no assignment satisfies it; these values, which are recovered, do; or the plan
-- is wider than the nodes that are allowed.
abbrev pub Says : Formula → List ℕ → List Move → Limits → Outcome → Type 0
Says formula order moves limits Unsat = AreUnsatisfiable formula.clauses
Says formula order moves limits (Sat values) = IsRecovered formula order moves values
Says formula order moves limits NodeLimit = IsWiderWith (keeps_trail limits.max_nodes) formula order moves limits.max_nodes
Says formula order moves limits IdLimit = ⊤

-- What the very bytes of the proof show of it: a refutation, that few clauses are left, or that the limit is reached.
abbrev pub Shows : Formula → Limits → List ℕ → Outcome → Type 0
Shows formula limits bytes Unsat = Refutation formula.clauses bytes
Shows formula limits bytes (Sat values) = IsProofOfKind formula.clauses
    (IsLeanAtEnd formula.vars (length formula.clauses) limits.cache) bytes
Shows formula limits bytes NodeLimit = NodesAreUsed formula limits.max_nodes bytes
Shows formula limits bytes IdLimit = NumbersAreUsed formula limits.max_ids bytes

-- The same where other calls gave numbers up to the first one: of a refutation not that it is one line, and of a formula all of whose
-- clauses are tautologies not that few clauses are left.
abbrev pub ShowsFrom : ℕ → Formula → Limits → List ℕ → Outcome → Type 0
ShowsFrom first formula limits bytes Unsat = RefutationFrom first formula.clauses bytes
ShowsFrom first formula limits bytes (Sat values) = (first ≡ length formula.clauses) ⊎ IsFalse (list_all is_tautology formula.clauses)
    → IsProofOfKind formula.clauses (IsLeanAtEnd formula.vars (length formula.clauses) limits.cache) bytes
ShowsFrom first formula limits bytes NodeLimit = NodesAreUsed formula limits.max_nodes bytes
ShowsFrom first formula limits bytes IdLimit = NumbersAreUsedFrom first formula limits.max_ids bytes

-- The greatest number of a finished run is not above those of the formula and the greatest allowed. At the limit of numbers fewer than four
-- are left.
pub record HasLast (formula : Formula) (limits : Limits) (run : Run) : Type 0 where
  pub within : run.last_id ≤ max (length formula.clauses) limits.max_ids
  pub spent : run.outcome ≡ IdLimit → limits.max_ids < run.last_id + 4

-- what the moves come to, as an outcome or a failure: a limit is an outcome
abbrev pub outcome_of : Result (Option (List Bool)) TableError → Result Outcome RunError
outcome_of (Ok None) = Ok Unsat
outcome_of (Ok (Some values)) = Ok (Sat values)
outcome_of (Err table.NodeLimit) = Ok NodeLimit
outcome_of (Err table.IdLimit) = Ok IdLimit
outcome_of (Err table.OutOfMemory) = Err OutOfMemory
outcome_of (Err table.WriteFault) = Err WriteFault

-- An outcome is true of the formula, and shown by the very bytes of the proof; where the limits are above what the plan's
-- width needs, it is a decision. A write fault is answered exactly where a write or the flush failed. All that was written
-- is a proof within the limits, but for a front of one line after a failed write, and flushed with an outcome; its variables
-- are the formula's, and behind them one for each node that is allowed; it keeps within what the plan's width needs. Where
-- all clauses are tautologies nothing is written. The evidence, what is paid and which limits are ample are of these kinds.
pub record EndsAs (tells : Bool) (before after : Channel) (formula : Formula) (order : List ℕ) (moves : List Move) (limits : Limits)
    (evidence : List ℕ → Outcome → Type 0) (paid : ℕ → ℕ → State → Type 0) (ample : ℕ → ℕ → Type 0)
    (result : Result Run RunError) : Type 0 where
  pub says : IfOk result (λ run. Says formula order moves limits run.outcome)
  pub certain : (width price : ℕ) → HasWidthWith (keeps_trail limits.max_nodes) formula order moves width
      → IsMovePrice formula.vars limits.cache width price → ample width price → IfOk result (λ run. IsDecision run.outcome)
  pub shows : IsTrue tells → IfOk result (λ run. evidence after.written run.outcome)
  pub last : IsTrue tells → IfOk result (λ run. LeadsTo formula limits after.written run.last_id)
  pub whole : result ≢ Err WriteFault → IsTrue tells → IsProof formula limits after.written
  pub so_far : IsTrue tells → IsProofSoFar formula limits after.written
  pub variables : IsTrue tells → UsesVariables (formula.vars + limits.max_nodes) after.written
  pub price : (width price : ℕ) → HasWidth formula order moves width → IsMovePrice formula.vars limits.cache width price → IsTrue tells
      → IsProofSoFarOfKind formula.clauses (paid width price) after.written
  pub flushed : IsOk result → IsTrue tells → after.flushed ≡ length after.written
  pub fault : result ≡ Err WriteFault → Rose before.faults after.faults
  pub unfailed : result ≢ Err WriteFault → after.faults ≡ before.faults
  pub tautologies : IsTrue (list_all is_tautology formula.clauses) → after.written ≡ before.written
  pub name : after.name ≡ before.name
  pub faults : before.faults ≤ after.faults

-- that of a run from its start
abbrev pub Ends : Bool → Channel → Channel → Formula → List ℕ → List Move → Limits → Result Run RunError → Type 0
Ends tells before after formula order moves limits result =
    EndsAs tells before after formula order moves limits (Shows formula limits) (IsPaidFor formula limits moves) (AreAmple limits formula moves)
    result

-- that of a run behind other calls, which gave numbers up to the first one
abbrev pub EndsFrom : ℕ → Bool → Channel → Channel → Formula → List ℕ → List Move → Limits → Result Run RunError → Type 0
EndsFrom first tells before after formula order moves limits result =
    EndsAs tells before after formula order moves limits (ShowsFrom first formula limits) (IsPaidFrom first formula limits moves)
    (AreAmpleFrom first limits moves) result
