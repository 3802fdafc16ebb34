-- A DRAT proof as a run of steps from the formula's clauses, and its verdict. A deletion takes out the first clause that is told to be the
-- one it names, also a unit clause, and passes where there is none. (The format: Wetzler, Heule, Hunt: DRAT-trim, SAT 2014. It deletes by
-- the same set of literals; and tools that follow it pass over deletions of unit clauses. The rule that unit clauses are deleted, the one
-- that tells clauses by their lists, and that steps behind the empty clause are judged too, are this project's own.)
use Rattle.std.specs.Prelude.{◌≡◌, ℕ, ◌+◌, Bool, false, ℤ, List, [], ◌∷◌, ◌++◌, length, Option, None, Some, if◌then◌else◌}
use Rattle.std.specs.List.{list_any}
use Rattle.cnf_base.specs.ProofText.{is_empty}
use Rattle.drat_text.specs.declared.step.DratStep.{DratStep}
use Rattle.drat_text.specs.declared.step.DratStep.TheVariants.{Add as adds, Delete as deletes}
use Rattle.lrat_rules.specs.declared.outcome.Reason.{Reason}
use Rattle.lrat_rules.specs.declared.outcome.Reason.TheVariants.{NoEmptyClause}
use Rattle.drat_rules.specs.Clauses.{Equality, same_list, without_first_by}
use Rattle.drat_rules.specs.Addition.{drat_fault}

-- the clauses that stand behind a step
abbrev pub after_by : Equality → List (List ℤ) → DratStep → List (List ℤ)
after_by same clauses (adds clause) = clauses ++ clause ∷ []
after_by same clauses (deletes clause) = without_first_by same clause clauses

-- the same where clauses are told by their lists; likewise below
abbrev pub after : List (List ℤ) → DratStep → List (List ℤ)
after clauses step = after_by same_list clauses step

-- why a step is not good; a deletion always is
abbrev pub drat_step_fault : List (List ℤ) → DratStep → Option Reason
drat_step_fault clauses (adds clause) = drat_fault clauses clause
drat_step_fault clauses (deletes clause) = None

-- the clauses that stand behind steps
abbrev pub after_all_by : Equality → List (List ℤ) → List DratStep → List (List ℤ)
after_all_by same clauses [] = clauses
after_all_by same clauses (step ∷ steps) = after_all_by same (after_by same clauses step) steps

abbrev pub after_all : List (List ℤ) → List DratStep → List (List ℤ)
after_all clauses steps = after_all_by same_list clauses steps

-- a fault at this place decides, else what is behind it
abbrev pub fault_or : ℕ → Option Reason → Option (ℕ × Reason) → Option (ℕ × Reason)
fault_or place None later = later
fault_or place (Some reason) later = Some (place, reason)

-- the first step that isn't good, each judged by the clauses that stand at its turn: its place, counted from this one on,
-- and why
abbrev pub first_fault_by : Equality → ℕ → List (List ℤ) → List DratStep → Option (ℕ × Reason)
first_fault_by same place clauses [] = None
first_fault_by same place clauses (step ∷ steps) =
    fault_or place (drat_step_fault clauses step) (first_fault_by same (place + 1) (after_by same clauses step) steps)

abbrev pub first_fault : ℕ → List (List ℤ) → List DratStep → Option (ℕ × Reason)
first_fault place clauses steps = first_fault_by same_list place clauses steps

abbrev pub adds_empty : DratStep → Bool
adds_empty (adds clause) = is_empty clause
adds_empty (deletes clause) = false

-- where each step is good, one that adds the empty clause is wanted
abbrev pub drat_verdict_at : ℕ → Bool → Option (ℕ × Reason) → Option (ℕ × Reason)
drat_verdict_at end has_empty (Some refusal) = Some refusal
drat_verdict_at end has_empty None = if has_empty then None else Some (end, NoEmptyClause)

-- The place, from 1, and the reason of the refusal of steps, or nothing where they are verified. It is that of the lines
-- of their text; the end is the line behind the last one.
abbrev pub drat_verdict_by : Equality → List (List ℤ) → List DratStep → Option (ℕ × Reason)
drat_verdict_by same clauses steps =
    drat_verdict_at (length steps + 1) (list_any adds_empty steps) (first_fault_by same 1 clauses steps)

abbrev pub drat_verdict : List (List ℤ) → List DratStep → Option (ℕ × Reason)
drat_verdict clauses steps = drat_verdict_by same_list clauses steps

-- the steps are verified: each is good, and some step adds the empty clause
pub record DratRefutesBy (same : Equality) (clauses : List (List ℤ)) (steps : List DratStep) : Type 0 where
  pub verified : drat_verdict_by same clauses steps ≡ None

abbrev pub DratRefutes : List (List ℤ) → List DratStep → Type 0
DratRefutes clauses steps = DratRefutesBy same_list clauses steps
