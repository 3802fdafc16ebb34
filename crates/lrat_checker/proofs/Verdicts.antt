-- The verdict on the steps of whole lines is that of the rules on the lines.
use Rattle.std.proofs.Common.{◌≡◌, ℕ, Bool, true, false, ◌||◌, List, [], ◌∷◌, Option, None, Some, refl, ◌∙◌, ap}
use Rattle.std.specs.List.{list_any}
use Rattle.cnf_base.specs.declared.step.Step.{Step}
use Rattle.cnf_base.specs.ProofText.{Line}
use Rattle.lrat_text.specs.Steps.{step_then, no_more, lines_then}
use Rattle.lrat_rules.specs.declared.outcome.Reason.{Reason}
use Rattle.lrat_rules.specs.State.{State}
use Rattle.lrat_rules.specs.Run.{Reached, step_fault, after_step, step_adds_empty, line_adds_empty, judge_step, judge_line, run, verdict_at}
use Rattle.proof_judging.specs.declared.verdict.Verdict.TheVariants.{Verified, Refused}
use Rattle.proof_judging.specs.Verdict.{end_verdict, judged, verdict_as}
use Rattle.lrat_checker.specs.TextVerdict.{steps_verdict}

or_assoc : (a b c : Bool) → ((a || b) || c) ≡ (a || (b || c))
or_assoc true b c = refl
or_assoc false b c = refl

or_false : (a : Bool) → (a || false) ≡ a
or_false true = refl
or_false false = refl

abbrev adds_empty : List Line → Bool
adds_empty lines = list_any (λ line. line_adds_empty line.step) lines

at_end : (end : ℕ) (has_empty : Bool) (state : State) → Some (end_verdict has_empty end)
    ≡ Some (verdict_as (verdict_at end has_empty (Reached state)))
at_end end true state = refl
at_end end false state = refl

pub lines_verdict : (end : ℕ) (lines : List Line) (state : State) (has_empty : Bool)
    → steps_verdict state has_empty (lines_then lines (no_more end))
    ≡ Some (verdict_as (verdict_at end (has_empty || adds_empty lines) (run state lines)))
lines_verdict end [] state has_empty = rw (or_false has_empty) (at_end end has_empty state)
lines_verdict end (line ∷ lines) state has_empty =
    elim line.step as (λ (given : Option Step). steps_verdict state has_empty (step_then given line.line (lines_then lines (no_more end)))
    ≡ Some (verdict_as (verdict_at end (has_empty || (line_adds_empty given || adds_empty lines))
    (judge_line state line.line (λ s. run s lines) given)))) [
      | None ↦ refl
      | Some step ↦ elim (step_fault state step) as (λ (fault : Option Reason). judged fault line.line
          (steps_verdict (after_step state step) (has_empty || step_adds_empty step) (lines_then lines (no_more end)))
          ≡ Some (verdict_as (verdict_at end (has_empty || (step_adds_empty step || adds_empty lines))
          (judge_step state line.line (λ s. run s lines) step fault)))) [
            | None ↦ lines_verdict end lines (after_step state step) (has_empty || step_adds_empty step)
                ∙ ap (λ (e : Bool). Some (verdict_as (verdict_at end e (run (after_step state step) lines))))
                (or_assoc has_empty (step_adds_empty step) (adds_empty lines))
            | Some reason ↦ refl
          ]
    ]

pub some_none : {X : Type 0} {x : X} → Some x ≡ None → ⊥
some_none e = cc

-- the rules' verdict from the answer that tells it
pub verified_none : (given : Option (ℕ × Reason)) → Some (verdict_as given) ≡ Some Verified → given ≡ None
verified_none None e = refl
verified_none (Some (line, reason)) e = cc

pub refused_some : (given : Option (ℕ × Reason)) (line : ℕ) (reason : Reason) → Some (verdict_as given) ≡ Some (Refused line reason) → given
    ≡ Some (line, reason)
refused_some None line reason e = cc
refused_some (Some (at, why)) line reason e = cc
