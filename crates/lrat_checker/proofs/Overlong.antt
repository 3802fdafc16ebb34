-- A text beyond the limit isn't verified, and is refused only by one of its lines, as the rules refuse it.
use Rattle.std.proofs.Common.{◌≡◌, ℕ, ◌<◌, ◌≤◌, Bool, false, ◌||◌, List, [], ◌∷◌, ◌++◌, length, Option, None, Some, inl, inr, refl, sym, ap}
use Rattle.std.proofs.Common.{◌∙◌}
use Rattle.std.specs.Prelude.{ℤ}
use Rattle.std.proofs.lemmas.Bool.{cases_lt}
use Rattle.cnf_base.specs.declared.step.Step.{Step}
use Rattle.cnf_base.specs.Text.{end_line}
use Rattle.cnf_base.specs.ProofText.{Line, proof_lines}
use Rattle.lrat_text.specs.Steps.{overlong, step_then, lines_then, lines_within, steps, AreFront}
use Rattle.lrat_rules.specs.declared.outcome.Reason.{Reason}
use Rattle.lrat_rules.specs.declared.outcome.Reason.TheVariants.{Syntax}
use Rattle.lrat_rules.specs.State.{State, start}
use Rattle.lrat_rules.specs.Run.{Stopped, step_fault, after_step, step_adds_empty, judge_step, judge_line, run, verdict_at, verdict}
use Rattle.lrat_rules.specs.Run.{adds_empty_clause}
use Rattle.proof_judging.specs.declared.verdict.Verdict.{Verdict}
use Rattle.proof_judging.specs.declared.verdict.Verdict.TheVariants.{Verified, Refused}
use Rattle.proof_judging.specs.Verdict.{judged}
use Rattle.lrat_checker.specs.TextVerdict.{max_bytes, steps_verdict, text_verdict, verdict_within}

-- that the text is too long verifies nothing
front_open : (lines : List Line) (state : State) (has_empty : Bool) → steps_verdict state has_empty (lines_then lines overlong)
    ≡ Some Verified → ⊥
front_open [] state has_empty = λ e. cc
front_open (line ∷ lines) state has_empty = elim line.step as (λ (given : Option Step). steps_verdict state has_empty
    (step_then given line.line (lines_then lines overlong)) ≡ Some Verified → ⊥) [
      | None ↦ λ e. cc
      | Some step ↦ elim (step_fault state step) as (λ (fault : Option Reason). judged fault line.line
          (steps_verdict (after_step state step) (has_empty || step_adds_empty step) (lines_then lines overlong)) ≡ Some Verified → ⊥) [
            | None ↦ λ e. front_open lines (after_step state step) (has_empty || step_adds_empty step) e
            | Some reason ↦ λ e. cc
          ]
    ]

stopped : (line other : ℕ) (reason why : Reason) → ◌≡◌ {A = Option Verdict} (Some (Refused line reason)) (Some (Refused other why))
    → Stopped line reason ≡ Stopped other why
stopped line other reason why e = cc

-- a line that is refused there stops the run, whatever lines follow
front_stops : (lines rest : List Line) (state : State) (has_empty : Bool) (at : ℕ) (reason : Reason)
    → steps_verdict state has_empty (lines_then lines overlong) ≡ Some (Refused at reason) → run state (lines ++ rest) ≡ Stopped at reason
front_stops [] rest state has_empty at reason = λ e. cc
front_stops (line ∷ lines) rest state has_empty at reason =
    elim line.step as (λ (given : Option Step). steps_verdict state has_empty (step_then given line.line (lines_then lines overlong))
    ≡ Some (Refused at reason) → judge_line state line.line (λ s. run s (lines ++ rest)) given ≡ Stopped at reason) [
      | None ↦ λ e. stopped line.line at Syntax reason e
      | Some step ↦ elim (step_fault state step) as (λ (fault : Option Reason). judged fault line.line
          (steps_verdict (after_step state step) (has_empty || step_adds_empty step) (lines_then lines overlong)) ≡ Some (Refused at reason)
          → judge_step state line.line (λ s. run s (lines ++ rest)) step fault ≡ Stopped at reason) [
            | None ↦ λ e. front_stops lines rest (after_step state step) (has_empty || step_adds_empty step) at reason e
            | Some why ↦ λ e. stopped line.line at why reason e
          ]
    ]

-- the verdict of lines with 'too long' behind them is where they lead
within_run : (lines : List Line) (state : State) (has_empty : Bool) → steps_verdict state has_empty (lines_then lines overlong)
    ≡ verdict_within (run state lines)
within_run [] state has_empty = refl
within_run (line ∷ lines) state has_empty =
    elim line.step as (λ (given : Option Step). steps_verdict state has_empty (step_then given line.line (lines_then lines overlong))
    ≡ verdict_within (judge_line state line.line (λ s. run s lines) given)) [
      | None ↦ refl
      | Some step ↦ elim (step_fault state step) as (λ (fault : Option Reason). judged fault line.line
          (steps_verdict (after_step state step) (has_empty || step_adds_empty step) (lines_then lines overlong))
          ≡ verdict_within (judge_step state line.line (λ s. run s lines) step fault)) [
            | None ↦ within_run lines (after_step state step) (has_empty || step_adds_empty step)
            | Some reason ↦ refl
          ]
    ]

-- a text beyond the limit has the verdict of its lines that end under it
pub long_verdict : ((limit : ℕ) (bytes : List ℕ) → limit < length bytes → steps limit bytes
    ≡ lines_then (lines_within limit bytes) overlong)
    → (clauses : List (List ℤ)) (bytes : List ℕ) → max_bytes < length bytes → text_verdict clauses bytes
    ≡ verdict_within (run (start clauses) (lines_within max_bytes bytes))
long_verdict law clauses bytes beyond = ap (steps_verdict (start clauses) false) (law max_bytes bytes beyond)
    ∙ within_run (lines_within max_bytes bytes) (start clauses) false

module _ (law : (limit : ℕ) (bytes : List ℕ) → limit < length bytes → AreFront (steps limit bytes) (proof_lines bytes)) where
  -- a text that is verified is within the limit
  pub verified_fits : (clauses : List (List ℤ)) (bytes : List ℕ) → text_verdict clauses bytes ≡ Some Verified → length bytes ≤ max_bytes
  verified_fits clauses bytes e = elim (cases_lt max_bytes (length bytes)) [
    | inl beyond ↦ let given = law max_bytes bytes beyond in absurd
        (front_open given.front (start clauses) false (sym (ap (steps_verdict (start clauses) false) given.steps) ∙ e))
    | inr fits ↦ fits
  ]

  -- one that is longer is refused as the rules refuse it
  pub long_refused : (clauses : List (List ℤ)) (bytes : List ℕ) (line : ℕ) (reason : Reason) → max_bytes < length bytes
      → text_verdict clauses bytes ≡ Some (Refused line reason) → verdict clauses bytes ≡ Some (line, reason)
  long_refused clauses bytes line reason beyond e =
      let given = law max_bytes bytes beyond in
      ap (λ (lines : List Line). verdict_at (end_line bytes) (adds_empty_clause bytes) (run (start clauses) lines)) given.parts
      ∙ ap (verdict_at (end_line bytes) (adds_empty_clause bytes))
      (front_stops given.front given.rest (start clauses) false line reason (sym (ap (steps_verdict (start clauses) false) given.steps)
      ∙ e))
