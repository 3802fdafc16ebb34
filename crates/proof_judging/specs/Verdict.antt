-- The verdict on a proof, in any format: its steps in turn, up to the first bad one, to the end, or to the limit.
use Rattle.std.specs.Prelude.{◌≡◌, ℕ, Bool, false, ◌||◌, Option, None, Some, Result, Ok, Err, ⊤, is_none, ◌&&◌, if◌then◌else◌}
use Rattle.lrat_text.specs.declared.error.StepError.{StepError}
use Rattle.lrat_text.specs.declared.error.StepError.TheVariants.{Syntax as BadLine, ReadFault as FailedRead, TooLong as LongText}
use Rattle.lrat_text.specs.declared.error.StepError.TheVariants.{OutOfMemory as NoMemory}
use Rattle.lrat_text.specs.LineSteps.{StepsOf, no_more, overlong, no_step, next_step}
use Rattle.lrat_text.specs.LineWants.{WantsOf, no_further, for_number, for_step, is_near}
use Rattle.lrat_rules.specs.declared.outcome.Reason.{Reason}
use Rattle.lrat_rules.specs.declared.outcome.Reason.TheVariants.{Syntax, NoEmptyClause}
use Rattle.proof_judging.specs.declared.verdict.Verdict.{Verdict}
use Rattle.proof_judging.specs.declared.verdict.Verdict.TheVariants.{Verified, Refused}
use Rattle.proof_judging.specs.declared.verdict.CheckError.{CheckError}
use Rattle.proof_judging.specs.declared.verdict.CheckError.TheVariants.{ReadFault, TooLong, OutOfMemory}

-- The rules of a format: why a step isn't good at a place of a proof, where a good one leads, and which steps add the empty clause.
pub record Format (Place Step : Type 0) : Type 0 where
  pub fault : Place → Step → Option Reason
  pub after : Place → Step → Place
  pub adds_empty : Step → Bool

-- at the end, on this line: verified where some step added the empty clause
abbrev pub end_verdict : Bool → ℕ → Verdict
end_verdict has_empty line = if has_empty then Verified else Refused line NoEmptyClause

-- the answer that tells the rules' verdict: a line that is bad first, and why, or none
abbrev pub verdict_as : Option (ℕ × Reason) → Verdict
verdict_as None = Verified
verdict_as (Some (line, reason)) = Refused line reason

-- a fault refuses; behind a good step the later ones decide
abbrev pub judged : Option Reason → ℕ → Option Verdict → Option Verdict
judged (Some reason) line later = Some (Refused line reason)
judged None line later = later

-- The verdict of these steps from this place on, where earlier ones did or didn't add the empty clause. Nothing where they are good up to
-- the limit.
abbrev pub verdict_by : {Place Step : Type 0} → Format Place Step → Place → Bool → StepsOf Step → Option Verdict
verdict_by format place has_empty (no_more line) = Some (end_verdict has_empty line)
verdict_by format place has_empty overlong = None
verdict_by format place has_empty (no_step line) = Some (Refused line Syntax)
verdict_by format place has_empty (next_step step line steps) =
    judged (format.fault place step) line (verdict_by format (format.after place step) (has_empty || format.adds_empty step) steps)

-- Memory may be wanted for what is still ahead of a reader, where so many bytes follow those taken: for a number of a line whose tokens
-- so far are numbers, or for a step. The steps before it are good, and no more numbers are kept behind it than a block of bytes can spell,
-- and those that follow.
abbrev pub wanted_by : {Place Step : Type 0} → Format Place Step → ℕ → Place → WantsOf Step → Bool
wanted_by format more place no_further = false
wanted_by format more place (for_number wants) = is_near more wants || wanted_by format more place wants
wanted_by format more place (for_step step wants) =
    is_near more wants || (is_none (format.fault place step) && wanted_by format more (format.after place step) wants)

-- The answer is what the text says. A failed read and want of memory say nothing of it.
abbrev pub Answers : Result Verdict CheckError → Option Verdict → Type 0
Answers (Ok verdict) text = text ≡ Some verdict
Answers (Err TooLong) text = text ≡ None
Answers (Err ReadFault) text = ⊤
Answers (Err OutOfMemory) text = ⊤

-- what the reader's error answers: its line spells no step, or there is no verdict
abbrev pub error_answer : StepError → Result Verdict CheckError
error_answer (BadLine line) = Ok (Refused line Syntax)
error_answer FailedRead = Err ReadFault
error_answer LongText = Err TooLong
error_answer NoMemory = Err OutOfMemory
