-- How a session of cubes ends, over the sink that takes its proof.
use Rattle.std.specs.Prelude.{◌≡◌, ◌≢◌, ◌⊎◌, ◌<◌, ◌≤◌, ◌+◌, ℕ, Bool, ℤ, List, length, Result, Ok, Err, IfOk, IsOk, IsTrue, ⊤}
use Rattle.cnf_base.specs.Formula.{Formula}
use Rattle.host_io.specs.Channel.{Channel, Rose}
use Rattle.lrat_rules.specs.Derivation.{IsWritten}
use Rattle.lrat_rules.specs.Marks.{in_use}
use Rattle.lrat_rules.specs.State.{State}
use Rattle.node_table.specs.declared.error.TableError.{TableError}
use Rattle.node_table.specs.declared.error.TableError.TheVariants as table
use Rattle.schedule_plan.specs.declared.limits.Limits.{Limits}
use Rattle.bdd_terms.specs.declared.error.RunError.{RunError}
use Rattle.bdd_terms.specs.declared.error.RunError.TheVariants.{OutOfMemory, WriteFault}
use Rattle.bdd_terms.specs.Price.{IsMovePrice}
use Rattle.term_runner.specs.Proofs.{IsProof, IsProofSoFar, IsProofSoFarOfKind, IsUnfinished}
use Rattle.cube_queries.specs.declared.answer.Answer.{Answer}
use Rattle.cube_queries.specs.declared.answer.Outcome.{Outcome}
use Rattle.cube_queries.specs.declared.answer.Outcome.TheVariants.{Answered, NodeLimit, IdLimit}
use Rattle.cube_queries.specs.Answers.{AreShown, AreTrue}
use Rattle.term_runner.specs.Width.{HasWidth, IsWider}
use Rattle.cube_queries.specs.Width.{AreAmple, IsPaid, plan_of}

-- The proof's extension variables in use are as many as nodes are allowed. No refutation stands there yet.
pub record NodesAreUsed (formula : Formula) (max_nodes : ℕ) (bytes : List ℕ) : Type 0 where
  pub state : State
  pub written : IsWritten formula.clauses bytes state
  pub used : in_use formula.vars state ≡ max_nodes
  pub unrefuted : IsUnfinished formula.clauses state

-- The proof's greatest number is less than four below the greatest allowed, and reaches that where a refutation stands there.
pub record NumbersAreUsed (formula : Formula) (max_ids : ℕ) (bytes : List ℕ) : Type 0 where
  pub state : State
  pub written : IsWritten formula.clauses bytes state
  pub used : max_ids < state.top + 4
  pub behind : IsUnfinished formula.clauses state ⊎ (max_ids ≤ state.top)

-- What an outcome says of the formula and the cubes. The limit of nodes is met only where the plan that conjoins the clauses is wider: no
-- cube makes a node.
abbrev pub Says : Formula → List ℕ → List (List ℤ) → Limits → Outcome → Type 0
Says formula order cubes limits (Answered answers) = AreTrue formula order cubes answers
Says formula order cubes limits NodeLimit = IsWider formula order (plan_of formula) limits.max_nodes
Says formula order cubes limits IdLimit = ⊤

-- what the very bytes of the proof show of it
abbrev pub Shows : Formula → List ℕ → List (List ℤ) → Limits → List ℕ → Outcome → Type 0
Shows formula order cubes limits bytes (Answered answers) = AreShown formula order cubes answers bytes
Shows formula order cubes limits bytes NodeLimit = NodesAreUsed formula limits.max_nodes bytes
Shows formula order cubes limits bytes IdLimit = NumbersAreUsed formula limits.max_ids bytes

-- all cubes are answered
abbrev pub IsAnswered : Outcome → Type 0
IsAnswered (Answered answers) = ⊤
IsAnswered NodeLimit = ⊥
IsAnswered IdLimit = ⊥

-- what the answers come to, as an outcome or a failure: a limit is an outcome
abbrev pub outcome_of : Result (List Answer) TableError → Result Outcome RunError
outcome_of (Ok answers) = Ok (Answered answers)
outcome_of (Err table.NodeLimit) = Ok NodeLimit
outcome_of (Err table.IdLimit) = Ok IdLimit
outcome_of (Err table.OutOfMemory) = Err OutOfMemory
outcome_of (Err table.WriteFault) = Err WriteFault

-- The result stands after a flush that didn't fail, or the flush failed; no byte changed.
pub record IsFlushed (tells : Bool) (before after : Channel) (found result : Result Outcome RunError) : Type 0 where
  pub ends : ((result ≡ found) × (IsOk found → IsTrue tells → after.flushed ≡ length after.written) × (after.faults ≡ before.faults))
      ⊎ ((result ≡ Err WriteFault) × Rose before.faults after.faults)
  pub written : after.written ≡ before.written
  pub name : after.name ≡ before.name

-- An outcome is true of the formula and the cubes, and shown by the very bytes of the proof; where the limits are above what the width
-- needs, it is the answers. A write fault is answered exactly where a write or the flush failed. All that was written is a proof within the
-- limits, but for a front of one line after a failed write, and flushed with an outcome. However it ends, its numbers are no more than the
-- moves cost that conjoin the clauses, one for each cube, and as many as the width once.
pub record Ends (tells : Bool) (before after : Channel) (formula : Formula) (order : List ℕ) (cubes : List (List ℤ)) (limits : Limits)
    (result : Result Outcome RunError) : Type 0 where
  pub says : IfOk result (Says formula order cubes limits)
  pub certain : (width price : ℕ) → HasWidth formula order (plan_of formula) width → IsMovePrice formula.vars limits.cache width price
      → AreAmple limits formula cubes width price → IfOk result IsAnswered
  pub shows : IsTrue tells → IfOk result (Shows formula order cubes limits after.written)
  pub whole : result ≢ Err WriteFault → IsTrue tells → IsProof formula limits after.written
  pub so_far : IsTrue tells → IsProofSoFar formula limits after.written
  pub paid : (width price : ℕ) → HasWidth formula order (plan_of formula) width → IsMovePrice formula.vars limits.cache width price → IsTrue tells
      → IsProofSoFarOfKind formula.clauses (IsPaid formula cubes width price) after.written
  pub flushed : IsOk result → IsTrue tells → after.flushed ≡ length after.written
  pub fault : result ≡ Err WriteFault → Rose before.faults after.faults
  pub unfailed : result ≢ Err WriteFault → after.faults ≡ before.faults
  pub name : after.name ≡ before.name
