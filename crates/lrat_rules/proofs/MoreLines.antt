-- A run over more lines.
use Rattle.std.proofs.Common.{◌≡◌, ℕ, List, [], ◌∷◌, ◌++◌, Option, None, Some, ap}
use Rattle.cnf_base.specs.declared.step.Step.{Step}
use Rattle.cnf_base.specs.ProofText.{Line}
use Rattle.lrat_rules.specs.State.{State}
use Rattle.lrat_rules.specs.Run.{step_fault, after_step, Judged, Reached, judge_step, judge_line, run}
use Rattle.lrat_rules.proofs.SoundSteps.{same_reached}

judge_line-goes_on : (state reached : State) (number : ℕ) (later more : State → Judged) (result : Judged)
    → ((next : State) → later next ≡ Reached reached → more next ≡ result)
    → (o : Option Step) → judge_line state number later o ≡ Reached reached → judge_line state number more o ≡ result
judge_line-goes_on state reached number later more result goes_on None h = cc
judge_line-goes_on state reached number later more result goes_on (Some step) h =
    elim (step_fault state step) as (λ f. judge_step state number later step f ≡ Reached reached → judge_step state number more step f
    ≡ result) [
      | None ↦ λ e. goes_on (after_step state step) e
      | Some reason ↦ λ e. cc
    ] h

-- a run over more lines goes on where the first lines led
pub run-append : (state reached : State) (xs ys : List Line) → run state xs ≡ Reached reached → run state (xs ++ ys) ≡ run reached ys
run-append state reached [] ys h = ap (λ s. run s ys) (same_reached state reached h)
run-append state reached (line ∷ lines) ys h =
    judge_line-goes_on state reached line.line (λ next. run next lines) (λ next. run next (lines ++ ys)) (run reached ys)
    (λ next e. run-append next reached lines ys e) line.step h

-- a run that begins with a step goes on behind it
pub run_on : (state reached : State) (number : ℕ) (step : Step) (lines : List Line)
    → run state (record { line = number; step = Some step } ∷ lines) ≡ Reached reached → run (after_step state step) lines ≡ Reached reached
run_on state reached number step lines h =
    elim (step_fault state step) as (λ f. judge_step state number (λ next. run next lines) step f ≡ Reached reached
    → run (after_step state step) lines ≡ Reached reached) [
      | None ↦ λ e. e
      | Some reason ↦ λ e. cc
    ] h
