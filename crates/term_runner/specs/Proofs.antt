-- What the bytes of a proof show: that they are exactly the lines of good steps within the limits, that they refute the
-- formula, or that a limit is reached.
use Rattle.std.specs.Prelude.{◌≡◌, ◌≢◌, ◌⊎◌, ◌<◌, ◌≤◌, ◌+◌, ℕ, ℤ, max, List, [], Some, length, IsTrue, IsFalse}
use Rattle.std.specs.List.{list_all}
use Rattle.cnf_base.specs.Truth.{Assignment, Satisfies}
use Rattle.cnf_base.specs.declared.step.Step.{Step}
use Rattle.cnf_base.specs.Formula.{Formula}
use Rattle.lrat_rules.specs.State.{State, clause_at}
use Rattle.lrat_rules.specs.Run.{Refutes}
use Rattle.lrat_rules.specs.Derivation.{IsWritten, IsCutProof, text_of}
use Rattle.lrat_rules.specs.Marks.{IsWithin, in_use}
use Rattle.clause_ledger.specs.Book.{IsCutText}
use Rattle.node_table.specs.Progress.{AreStepsUpTo}
use Rattle.schedule_plan.specs.declared.limits.Limits.{Limits}
use Rattle.term_runner.specs.Clauses.{is_tautology, has_empty_clause, one_line}

-- no assignment satisfies the clauses
abbrev pub AreUnsatisfiable : List (List ℤ) → Type 0
AreUnsatisfiable clauses = (a : Assignment) → Satisfies a clauses → ⊥

-- The state keeps within the limits of a run: no number is above those of the formula and the greatest allowed, and no
-- more extension variables are in use than nodes are allowed.
abbrev pub KeepsWithin : Formula → Limits → State → Type 0
KeepsWithin formula limits state = IsWithin formula.vars (max (length formula.clauses) limits.max_ids) limits.max_nodes state

-- The bytes are exactly the lines of good steps from the clauses, and lead to a state of this kind.
pub record IsProofOfKind (clauses : List (List ℤ)) (kind : State → Type 0) (bytes : List ℕ) : Type 0 where
  pub state : State
  pub written : IsWritten clauses bytes state
  pub within : kind state

-- The same but for the last line, of which a front stands: the states before it and behind it are of this kind.
pub record IsBrokenOfKind (clauses : List (List ℤ)) (kind : State → Type 0) (bytes : List ℕ) : Type 0 where
  pub before : State
  pub after : State
  pub cut : IsCutProof clauses bytes before after
  pub within_before : kind before
  pub within_after : kind after

-- a proof, whole or cut short in its last line
abbrev pub IsProofSoFarOfKind : List (List ℤ) → (State → Type 0) → List ℕ → Type 0
IsProofSoFarOfKind clauses kind bytes = IsProofOfKind clauses kind bytes ⊎ IsBrokenOfKind clauses kind bytes

-- those that keep within the limits of a run
abbrev pub IsProof : Formula → Limits → List ℕ → Type 0
IsProof formula limits bytes = IsProofOfKind formula.clauses (KeepsWithin formula limits) bytes

abbrev pub IsBroken : Formula → Limits → List ℕ → Type 0
IsBroken formula limits bytes = IsBrokenOfKind formula.clauses (KeepsWithin formula limits) bytes

abbrev pub IsProofSoFar : Formula → Limits → List ℕ → Type 0
IsProofSoFar formula limits bytes = IsProofSoFarOfKind formula.clauses (KeepsWithin formula limits) bytes

-- The bytes are the lines of these steps, the last of which may be cut short. No variable of a clause that they add is above
-- this one.
pub record UsesVariables (most : ℕ) (bytes : List ℕ) : Type 0 where
  pub steps : List Step
  pub spelled : (bytes ≡ text_of steps) ⊎ IsCutText steps bytes
  pub few : AreStepsUpTo most steps

-- they are a proof whose greatest number is this one
pub record LeadsTo (formula : Formula) (limits : Limits) (bytes : List ℕ) (last : ℕ) : Type 0 where
  pub proof : IsProof formula limits bytes
  pub top : proof.state.top ≡ last

-- they refute the clauses, by one line where one of them is empty
pub record Refutation (clauses : List (List ℤ)) (bytes : List ℕ) : Type 0 where
  pub refutes : Refutes clauses bytes
  pub at_once : IsTrue (has_empty_clause clauses) → bytes ≡ one_line clauses

-- They refute the clauses: by one line where one of them is empty, and no number was given before this one but the clauses' own.
pub record RefutationFrom (first : ℕ) (clauses : List (List ℤ)) (bytes : List ℕ) : Type 0 where
  pub refutes : Refutes clauses bytes
  pub at_once : first ≡ length clauses → IsTrue (has_empty_clause clauses) → bytes ≡ one_line clauses

-- no refutation yet: no empty clause stands beside those of the formula
abbrev pub IsUnfinished : List (List ℤ) → State → Type 0
IsUnfinished clauses state = (id : ℕ) → length clauses < id → clause_at state.live id ≢ Some []

-- The formula has no empty clause and some clause that is no tautology, and the extension variables in use in the
-- proof are as many as the nodes allowed. No refutation stands there yet.
pub record NodesAreUsed (formula : Formula) (max_nodes : ℕ) (bytes : List ℕ) : Type 0 where
  pub none_empty : IsFalse (has_empty_clause formula.clauses)
  pub some_open : IsFalse (list_all is_tautology formula.clauses)
  pub state : State
  pub written : IsWritten formula.clauses bytes state
  pub used : in_use formula.vars state ≡ max_nodes
  pub unrefuted : IsUnfinished formula.clauses state

-- The formula has some clause that is no tautology, and the proof's greatest number is less than four below the
-- greatest number allowed; where a clause is empty, the first number reaches that already. No refutation stands there yet.
pub record NumbersAreUsedFrom (first : ℕ) (formula : Formula) (max_ids : ℕ) (bytes : List ℕ) : Type 0 where
  pub some_open : IsFalse (list_all is_tautology formula.clauses)
  pub state : State
  pub written : IsWritten formula.clauses bytes state
  pub used : max_ids < state.top + 4
  pub at_once : IsTrue (has_empty_clause formula.clauses) → max_ids ≤ first
  pub unrefuted : IsUnfinished formula.clauses state

-- the first number is the greatest of the formula's own
abbrev pub NumbersAreUsed : Formula → ℕ → List ℕ → Type 0
NumbersAreUsed formula max_ids bytes = NumbersAreUsedFrom (length formula.clauses) formula max_ids bytes
