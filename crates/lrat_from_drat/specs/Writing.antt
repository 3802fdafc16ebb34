-- What comes of one step of a DRAT proof: it is judged, and where it is good taken, and written as the LRAT lines that it becomes.
use Rattle.std.specs.Prelude.{◌≡◌, Bool, true, List, map, Option, None, Some, Result, Ok, Err}
use Rattle.std.specs.List.{list_all, list_any}
use Rattle.cnf_base.specs.declared.step.Step.{Step}
use Rattle.cnf_base.specs.declared.step.Step.TheVariants.{Add, Delete}
use Rattle.cnf_base.specs.Truth.{is_literal_of}
use Rattle.cnf_base.specs.ProofText.{line_of_step, max_literal}
use Rattle.host_io.specs.declared.source.Failed.{Failed}
use Rattle.host_io.specs.Channel.{Channel, WritesAll}
use Rattle.lrat_rules.specs.declared.outcome.Reason.{Reason}
use Rattle.lrat_rules.specs.State.{State}
use Rattle.lrat_rules.specs.Run.{step_adds_empty}
use Rattle.lrat_rules.specs.Derivation.{text_of}
use Rattle.drat_text.specs.declared.step.DratStep.{DratStep}
use Rattle.drat_rules.specs.Clauses.{Equality}
use Rattle.drat_rules.specs.Run.{adds_empty, after_by, drat_step_fault}
use Rattle.drat_proof.specs.declared.error.ConvertError.{ConvertError}
use Rattle.drat_proof.specs.declared.error.ConvertError.TheVariants.{ReadFault, TooLong, OutOfMemory, WriteFault}
use Rattle.drat_checker.specs.Places.{Places, standing}
use Rattle.lrat_from_drat.specs.Following.{Follows, Leads}
use Rattle.lrat_from_drat.specs.Lrat.{Outline, lrat_of_step, outline, places_after}

-- the literals that a step adds are in their range
abbrev pub has_literals : Step → Bool
has_literals (Add id clause hints groups) = list_all (is_literal_of max_literal) clause
has_literals (Delete id ids) = true

-- How the line of a step was written: all of it, or a front of it where a write failed.
abbrev pub WritesLine : Bool → Channel → Channel → Step → Result (Option Reason) ConvertError → Type 0
WritesLine tells old new step (Ok None) = (has_literals step ≡ true) × WritesAll {T = Unit {0}} tells old new (line_of_step step) (Ok tt)
WritesLine tells old new step (Ok (Some reason)) = ⊥
WritesLine tells old new step (Err OutOfMemory) = new ≡ old
WritesLine tells old new step (Err WriteFault) = (has_literals step ≡ true)
    × ((failed : Failed) × WritesAll {T = Unit {0}} tells old new (line_of_step step) (Err failed))
WritesLine tells old new step (Err ReadFault) = ⊥
WritesLine tells old new step (Err TooLong) = ⊥

-- The lines have these outlines, lead from this state to one that follows the clauses behind the step, and were written so.
pub record Written (tells : Bool) (old new : Channel) (becomes : List Outline) (after : Places) (step : DratStep) (state : State)
    (written : Result (Unit {0}) Failed) : Type 0 where
  pub then : State
  pub steps : List Step
  pub leads : Leads state then steps
  pub follows : Follows then after
  pub alike : map outline steps ≡ becomes
  pub empty : adds_empty step ≡ true → list_any step_adds_empty steps ≡ true
  pub lines : WritesAll tells old new (text_of steps) written

-- it is so from each state that follows the clauses before it, where clauses are told to be the same by this equality
pub record Writes (tells : Bool) (old new : Channel) (same : Equality) (before after : Places) (step : DratStep)
    (written : Result (Unit {0}) Failed) : Type 0 where
  pub places : after ≡ places_after same before step
  pub from : (state : State) → Follows state before → Written tells old new (lrat_of_step same before step) after step state written

-- what comes of the step
abbrev pub Takes : Bool → Channel → Channel → Equality → Places → Places → DratStep → Result (Option Reason) ConvertError → Type 0
Takes tells old new same before after step (Ok None) = (drat_step_fault (standing before) step ≡ None)
    × (standing after ≡ after_by same (standing before) step) × Writes tells old new same before after step (Ok tt)
Takes tells old new same before after step (Ok (Some reason)) = (drat_step_fault (standing before) step ≡ Some reason) × (new ≡ old)
Takes tells old new same before after step (Err OutOfMemory) = new ≡ old
Takes tells old new same before after step (Err WriteFault) = (drat_step_fault (standing before) step ≡ None)
    × ((failed : Failed) × Writes tells old new same before after step (Err failed))
Takes tells old new same before after step (Err ReadFault) = ⊥
Takes tells old new same before after step (Err TooLong) = ⊥
