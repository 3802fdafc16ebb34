-- A proof as a run of steps from the formula's clauses, and the verdict on a text. (Cruz-Filipe, Heule, Hunt,
-- Kaufmann, Schneider-Kamp: Efficient Certified RAT Verification, CADE 2017.) That lines behind the empty clause are
-- judged too is this project's own rule.
use Rattle.std.specs.Prelude.{◌≡◌, ℕ, Bool, false, ℤ, List, [], ◌∷◌, Option, None, Some, IsTrue, if◌then◌else◌}
use Rattle.std.specs.List.{list_any}
use Rattle.cnf_base.specs.declared.step.Step.{Step}
use Rattle.cnf_base.specs.declared.step.Step.TheVariants.{Add, Delete}
use Rattle.cnf_base.specs.Text.{end_line}
use Rattle.cnf_base.specs.ProofText.{Line, proof_lines, is_empty, are_whole_lines}
use Rattle.lrat_rules.specs.declared.outcome.Reason.{Reason}
use Rattle.lrat_rules.specs.declared.outcome.Reason.TheVariants.{Syntax, NoEmptyClause}
use Rattle.lrat_rules.specs.State.{State, start, with_clause, without_clauses}
use Rattle.lrat_rules.specs.Addition.{fault}

-- why a step is not good; a deletion always is
abbrev pub step_fault : State → Step → Option Reason
step_fault state (Add id clause hints groups) = fault state id clause hints groups
step_fault state (Delete id ids) = None

abbrev pub after_step : State → Step → State
after_step state (Add id clause hints groups) = record { live = with_clause state.live id clause; top = id }
after_step state (Delete id ids) = record { live = without_clauses state.live ids; top = state.top }

-- where the lines lead: to a state, or to the first line that is no good step
pub data Judged : Type 0 where
  Reached : State → Judged
  Stopped : ℕ → Reason → Judged

abbrev pub judge_step : State → ℕ → (State → Judged) → Step → Option Reason → Judged
judge_step state line later step None = later (after_step state step)
judge_step state line later step (Some reason) = Stopped line reason

abbrev pub judge_line : State → ℕ → (State → Judged) → Option Step → Judged
judge_line state line later None = Stopped line Syntax
judge_line state line later (Some step) = judge_step state line later step (step_fault state step)

abbrev pub run : State → List Line → Judged
run state [] = Reached state
run state (line ∷ lines) = judge_line state line.line (λ s. run s lines) line.step

abbrev pub step_adds_empty : Step → Bool
step_adds_empty (Add id clause hints groups) = is_empty clause
step_adds_empty (Delete id ids) = false

abbrev pub line_adds_empty : Option Step → Bool
line_adds_empty None = false
line_adds_empty (Some step) = step_adds_empty step

-- some line adds the empty clause
abbrev pub adds_empty_clause : List ℕ → Bool
adds_empty_clause bytes = list_any (λ line. line_adds_empty line.step) (proof_lines bytes)

abbrev pub verdict_at : ℕ → Bool → Judged → Option (ℕ × Reason)
verdict_at end has_empty (Stopped line reason) = Some (line, reason)
verdict_at end has_empty (Reached state) = if has_empty then None else Some (end, NoEmptyClause)

-- the line and the reason of the refusal of a proof text, or nothing where it is verified
abbrev pub verdict : List (List ℤ) → List ℕ → Option (ℕ × Reason)
verdict clauses bytes = verdict_at (end_line bytes) (adds_empty_clause bytes) (run (start clauses) (proof_lines bytes))

-- the text is verified: each line is a good step, and some line adds the empty clause
pub record Refutes (clauses : List (List ℤ)) (bytes : List ℕ) : Type 0 where
  pub verified : verdict clauses bytes ≡ None

-- the text is whole lines, good steps from the formula's clauses to this state
pub record Spells (clauses : List (List ℤ)) (bytes : List ℕ) (state : State) : Type 0 where
  pub whole : IsTrue (are_whole_lines bytes)
  pub reached : run (start clauses) (proof_lines bytes) ≡ Reached state
