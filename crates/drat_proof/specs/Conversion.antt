-- What the answer of a conversion says of the text that was read, and of the bytes that were written. What comes of a step is told
-- by one definition over answers (`Takes`, `ConvertsSteps`), so that each end of the loop is one lemma over plain variables.
use Rattle.std.specs.Prelude.{◌≡◌, ◌≢◌, ℕ, Bool, false, ℤ, List, [], ◌∷◌, ◌++◌, length, Option, None, Some, Result, Ok, Err, IsTrue, ⊤}
use Rattle.cnf_base.specs.declared.step.Step.{Step}
use Rattle.host_io.specs.Channel.{Channel, Rose, WritesAll}
use Rattle.host_io.specs.declared.source.Failed.{Failed}
use Rattle.text_scan.specs.Decides.{gained, Decides, OnlyReads}
use Rattle.lrat_text.specs.Reader.{Reader, steps_ahead, so_far}
use Rattle.lrat_text.specs.Wants.{wants_ahead}
use Rattle.lrat_rules.specs.declared.outcome.Reason.{Reason}
use Rattle.lrat_rules.specs.State.{State}
use Rattle.lrat_rules.specs.Run.{step_fault, after_step}
use Rattle.proof_judging.specs.declared.verdict.Verdict.{Verdict}
use Rattle.proof_judging.specs.declared.verdict.CheckError.{CheckError}
use Rattle.proof_judging.specs.declared.verdict.CheckError.TheVariants.{ReadFault as CheckFault, TooLong as LongText, OutOfMemory as CheckMemory}
use Rattle.lrat_checker.specs.Memory.{may_want_memory, reading_may_want_memory}
use Rattle.lrat_checker.specs.TextVerdict.{steps_verdict}
use Rattle.drat_text.specs.declared.step.DratStep.{DratStep}
use Rattle.drat_text.specs.declared.step.DratStep.TheVariants.{Add as adds}
use Rattle.drat_text.specs.DratText.{drat_text}
use Rattle.drat_proof.specs.declared.error.ConvertError.{ConvertError}
use Rattle.drat_proof.specs.declared.error.ConvertError.TheVariants.{ReadFault, TooLong, OutOfMemory, WriteFault}
use Rattle.drat_proof.specs.Drat.{drat_of_step, drat_of}
use Rattle.drat_proof.specs.Naming.{NamesAhead, named_by, behind, behind_all}
use Rattle.drat_proof.specs.TwoRoles.{OnlyWrites, added}

-- why a check comes to no verdict, neither does a conversion
abbrev pub convert_error : CheckError → ConvertError
convert_error CheckFault = ReadFault
convert_error LongText = TooLong
convert_error CheckMemory = OutOfMemory

abbrev pub converted : Result Verdict CheckError → Result Verdict ConvertError
converted (Ok verdict) = Ok verdict
converted (Err error) = Err (convert_error error)

-- The answer is the verdict of the text. A failed call and want of memory say nothing of it.
abbrev pub HasVerdict : Result Verdict ConvertError → Option Verdict → Type 0
HasVerdict (Ok verdict) text = text ≡ Some verdict
HasVerdict (Err TooLong) text = text ≡ None
HasVerdict (Err ReadFault) text = ⊤
HasVerdict (Err OutOfMemory) text = ⊤
HasVerdict (Err WriteFault) text = ⊤

-- the lines of the first of these steps
pub record AreFirstLines (written : List ℕ) (steps : List DratStep) : Type 0 where
  pub front : List DratStep
  pub rest : List DratStep
  pub parts : steps ≡ front ++ rest
  pub lines : written ≡ drat_text front

-- What was written of the text of these steps: all of it where the proof was read to its end, to a bad line or to the
-- limit, a front of it after a failed write, and else whole lines.
abbrev pub HasWritten : Result Verdict ConvertError → List ℕ → List DratStep → Type 0
HasWritten (Ok verdict) written steps = written ≡ drat_text steps
HasWritten (Err TooLong) written steps = written ≡ drat_text steps
HasWritten (Err WriteFault) written steps = (rest : List ℕ) × (drat_text steps ≡ written ++ rest)
HasWritten (Err ReadFault) written steps = AreFirstLines written steps
HasWritten (Err OutOfMemory) written steps = AreFirstLines written steps

-- A step was judged, and where it is good taken and written by its names, of which a front may be written where a write failed.
abbrev pub Takes : Bool → Channel → Channel → State → State → NamesAhead → NamesAhead → Step → Result (Option Reason) ConvertError → Type 0
Takes tells old new before after names next step (Ok None) = (step_fault before step ≡ None) × (after ≡ after_step before step)
    × WritesAll {T = Unit {0}} tells old new (drat_text (named_by names (drat_of_step before step))) (Ok tt)
    × (next ≡ behind_all names (drat_of_step before step))
Takes tells old new before after names next step (Ok (Some reason)) = (step_fault before step ≡ Some reason) × (new ≡ old)
Takes tells old new before after names next step (Err OutOfMemory) = IsTrue (may_want_memory before step) × (new ≡ old)
Takes tells old new before after names next step (Err WriteFault) = (step_fault before step ≡ None)
    × ((failed : Failed) × WritesAll {T = Unit {0}} tells old new (drat_text (named_by names (drat_of_step before step))) (Err failed))
Takes tells old new before after names next step (Err ReadFault) = ⊥
Takes tells old new before after names next step (Err TooLong) = ⊥

-- The clause of a good addition was written by its names, of which a front may be written where a write failed.
abbrev pub WritesAddition : Bool → Channel → Channel → NamesAhead → NamesAhead → List ℤ → Result (Option Reason) ConvertError → Type 0
WritesAddition tells old new names next clause (Ok None) =
    WritesAll {T = Unit {0}} tells old new (drat_text (named_by names (adds clause ∷ []))) (Ok tt)
    × (next ≡ behind names (adds clause))
WritesAddition tells old new names next clause (Err OutOfMemory) = new ≡ old
WritesAddition tells old new names next clause (Err WriteFault) =
    (failed : Failed) × WritesAll {T = Unit {0}} tells old new (drat_text (named_by names (adds clause ∷ []))) (Err failed)
WritesAddition tells old new names next clause (Ok (Some reason)) = ⊥
WritesAddition tells old new names next clause (Err ReadFault) = ⊥
WritesAddition tells old new names next clause (Err TooLong) = ⊥

-- the answer for a good step, by how its write ended
abbrev pub step_answer : Result (Unit {0}) Failed → Result (Option Reason) ConvertError
step_answer (Ok u) = Ok None
step_answer (Err e) = Err WriteFault

-- The steps ahead of a judge and a reader were converted by these names, reading one role and writing another.
pub record ConvertsSteps (tells : Bool) (in_old in_new out_old out_new : Channel) (state : State) (names : NamesAhead) (reader : Reader)
    (result : Result Verdict ConvertError) : Type 0 where
  pub decides : IsTrue tells → Decides in_old in_new
      (λ bytes more. HasVerdict result (steps_verdict state false (steps_ahead reader bytes)))
  pub written : IsTrue tells → Decides in_old in_new
      (λ bytes more. HasWritten result (added out_old out_new) (named_by names (drat_of state (steps_ahead reader bytes))))
  pub appended : IsTrue tells → out_new.written ≡ out_old.written ++ added out_old out_new
  pub undecided : IsTrue tells → result ≡ Err ReadFault → steps_verdict state false (so_far reader (gained in_old in_new)) ≡ None
  pub wants : IsTrue tells → result ≡ Err OutOfMemory → Decides in_old in_new
      (λ bytes more. IsTrue (reading_may_want_memory (length more) state (wants_ahead reader bytes)))
  pub read_fault : result ≡ Err ReadFault → Rose in_old.faults in_new.faults
  pub write_fault : result ≡ Err WriteFault → Rose out_old.faults out_new.faults
  pub unfailed_reads : result ≢ Err ReadFault → in_new.faults ≡ in_old.faults
  pub unfailed_writes : result ≢ Err WriteFault → out_new.faults ≡ out_old.faults
  pub reads : OnlyReads in_old in_new
  pub writes : OnlyWrites out_old out_new
