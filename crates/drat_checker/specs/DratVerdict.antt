-- What a DRAT text says over a formula: its steps in turn from the formula's clauses on, up to the first bad line, to the end, or
-- to the limit. (The format: Wetzler, Heule, Hunt: DRAT-trim, SAT 2014.)
use Rattle.std.specs.Prelude.{ℕ, ◌+◌, Bool, false, ℤ, List, [], ◌∷◌, Option, None, Some}
use Rattle.cnf_base.specs.Limits.{max_bytes}
use Rattle.lrat_text.specs.LineSteps.{StepsOf, steps_so_far_by}
use Rattle.proof_judging.specs.declared.verdict.Verdict.{Verdict}
use Rattle.proof_judging.specs.Verdict.{Format, verdict_by}
use Rattle.drat_text.specs.declared.step.DratStep.{DratStep}
use Rattle.drat_text.specs.DratText.{DratLine, drat_step_of}
use Rattle.drat_text.specs.DratSteps.{drat_steps_in}
use Rattle.drat_rules.specs.Clauses.{Equality, same_list}
use Rattle.drat_rules.specs.Run.{after_by, adds_empty, drat_step_fault}

-- Where a proof stands: the clauses that stand, and when a deletion takes one for its own.
abbrev pub DratPlace : Type 0
DratPlace = Equality × List (List ℤ)

-- the rules of DRAT
abbrev pub drat_format : Format DratPlace DratStep
drat_format = record {
  fault = λ place step. drat_step_fault place.1 step;
  after = λ place step. (place.0, after_by place.0 place.1 step);
  adds_empty = adds_empty;
}

-- The verdict of these steps where these clauses stand, and where earlier ones did or didn't add the empty clause. Nothing where
-- they are good up to the limit. Clauses are told to be the same by this equality.
abbrev pub drat_steps_verdict_by : Equality → List (List ℤ) → Bool → StepsOf DratStep → Option Verdict
drat_steps_verdict_by same clauses has_empty steps = verdict_by drat_format (same, clauses) has_empty steps

-- the verdict of a text, nothing where it is too long and no line under the limit is bad
abbrev pub drat_text_verdict_by : Equality → List (List ℤ) → List ℕ → Option Verdict
drat_text_verdict_by same clauses bytes = drat_steps_verdict_by same clauses false (drat_steps_in max_bytes bytes)

-- The verdict that the front of a longer text decides, whatever comes after it: some line of it is bad, and a token of a later
-- line has come. Nothing where none is bad so far.
abbrev pub drat_verdict_so_far_by : Equality → List (List ℤ) → List ℕ → Option Verdict
drat_verdict_so_far_by same clauses bytes = drat_steps_verdict_by same clauses false (steps_so_far_by drat_step_of bytes)

-- the same where clauses are told by their lists
abbrev pub drat_text_verdict : List (List ℤ) → List ℕ → Option Verdict
drat_text_verdict clauses bytes = drat_text_verdict_by same_list clauses bytes

abbrev pub drat_verdict_so_far : List (List ℤ) → List ℕ → Option Verdict
drat_verdict_so_far clauses bytes = drat_verdict_so_far_by same_list clauses bytes

-- the steps of lines, where each of them spells one
abbrev pub with_step : Option DratStep → Option (List DratStep) → Option (List DratStep)
with_step None steps = None
with_step (Some step) None = None
with_step (Some step) (Some steps) = Some (step ∷ steps)

abbrev pub steps_of_lines : List DratLine → Option (List DratStep)
steps_of_lines [] = Some []
steps_of_lines (line ∷ lines) = with_step line.step (steps_of_lines lines)

-- these steps, one on each line from this one on
abbrev pub numbered_lines : ℕ → List DratStep → List DratLine
numbered_lines line [] = []
numbered_lines line (step ∷ steps) = record { line = line; step = Some step } ∷ numbered_lines (line + 1) steps
