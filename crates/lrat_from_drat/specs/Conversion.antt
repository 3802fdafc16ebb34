-- What the answer of a conversion from DRAT to LRAT says of the text that was read, and of the bytes that were written.
use Rattle.std.specs.Prelude.{◌≡◌, ◌≢◌, ◌⊎◌, ℕ, ℤ, Bool, false, List, ◌++◌, length, map, true, None, Some, Result, Ok, Err, IsTrue}
use Rattle.std.specs.List.{list_any}
use Rattle.cnf_base.specs.declared.step.Step.{Step}
use Rattle.host_io.specs.Channel.{Channel, Rose}
use Rattle.text_scan.specs.Decides.{gained, Decides, OnlyReads}
use Rattle.lrat_text.specs.LineReader.{ReaderOf, steps_ahead, so_far}
use Rattle.lrat_text.specs.LineWants.{wants_ahead}
use Rattle.lrat_rules.specs.State.{State, start}
use Rattle.lrat_rules.specs.Run.{step_adds_empty}
use Rattle.lrat_rules.specs.Derivation.{text_of}
use Rattle.proof_judging.specs.declared.verdict.Verdict.{Verdict}
use Rattle.proof_judging.specs.declared.verdict.Verdict.TheVariants.{Refused, Verified}
use Rattle.drat_text.specs.Draft.{DratDraft, drat_form}
use Rattle.drat_rules.specs.Clauses.{Equality}
use Rattle.drat_proof.specs.declared.error.ConvertError.{ConvertError}
use Rattle.drat_proof.specs.declared.error.ConvertError.TheVariants.{ReadFault, TooLong, OutOfMemory, WriteFault}
use Rattle.drat_proof.specs.Conversion.{HasVerdict}
use Rattle.drat_proof.specs.TwoRoles.{OnlyWrites, added}
use Rattle.drat_checker.specs.DratVerdict.{drat_steps_verdict_by}
use Rattle.drat_checker.specs.Memory.{drat_reading_may_want_memory}
use Rattle.drat_checker.specs.Places.{Places, standing}
use Rattle.lrat_from_drat.specs.Following.{Follows, Leads}
use Rattle.lrat_from_drat.specs.Lrat.{Outline, beginning, lrat_of, outline}

-- the bytes are the lines of good steps from this state on
pub record AreSteps (from : State) (written : List ℕ) : Type 0 where
  pub then : State
  pub steps : List Step
  pub leads : Leads from then steps
  pub text : written ≡ text_of steps

-- the same, and some step adds the empty clause
pub record AreRefuting (from : State) (written : List ℕ) : Type 0 where
  pub then : State
  pub steps : List Step
  pub leads : Leads from then steps
  pub text : written ≡ text_of steps
  pub empty : list_any step_adds_empty steps ≡ true

-- What was written from a state on: where the proof is verified, steps that refute; else good steps, of whose last line a front may be
-- missing where a write failed.
abbrev pub HasSteps : Result Verdict ConvertError → State → List ℕ → Type 0
HasSteps (Ok Verified) from written = AreRefuting from written
HasSteps (Ok (Refused line reason)) from written = AreSteps from written
HasSteps (Err ReadFault) from written = AreSteps from written
HasSteps (Err TooLong) from written = AreSteps from written
HasSteps (Err OutOfMemory) from written = AreSteps from written
HasSteps (Err WriteFault) from written = (rest : List ℕ) × AreSteps from (written ++ rest)

-- the bytes are lines of these outlines
pub record AreLinesOf (becomes : List Outline) (written : List ℕ) : Type 0 where
  pub steps : List Step
  pub alike : map outline steps ≡ becomes
  pub text : written ≡ text_of steps

-- lines of the first of these outlines
pub record AreFirstLinesOf (becomes : List Outline) (written : List ℕ) : Type 0 where
  pub front : List Outline
  pub rest : List Outline
  pub parts : becomes ≡ front ++ rest
  pub lines : AreLinesOf front written

-- What was written of lines of these outlines: all of them where the proof was read to its end, to a bad line or to the limit, and else
-- the first ones, of whose last line a front may be missing where a write failed.
abbrev pub HasLines : Result Verdict ConvertError → List Outline → List ℕ → Type 0
HasLines (Ok verdict) becomes written = AreLinesOf becomes written
HasLines (Err TooLong) becomes written = AreLinesOf becomes written
HasLines (Err ReadFault) becomes written = AreFirstLinesOf becomes written
HasLines (Err OutOfMemory) becomes written = AreFirstLinesOf becomes written
HasLines (Err WriteFault) becomes written = (rest : List ℕ) × AreFirstLinesOf becomes (written ++ rest)

-- The steps ahead of a judge and a reader were converted, reading one role and writing another.
pub record ConvertsSteps (tells : Bool) (in_old in_new out_old out_new : Channel) (same : Equality) (places : Places)
    (reader : ReaderOf DratDraft) (result : Result Verdict ConvertError) : Type 0 where
  pub decides : IsTrue tells → Decides in_old in_new
      (λ bytes more. HasVerdict result (drat_steps_verdict_by same (standing places) false (steps_ahead drat_form reader bytes)))
  pub written : IsTrue tells → (state : State) → Follows state places → HasSteps result state (added out_old out_new)
  pub lines : IsTrue tells → Decides in_old in_new
      (λ bytes more. HasLines result (lrat_of same places (steps_ahead drat_form reader bytes)) (added out_old out_new))
  pub appended : IsTrue tells → out_new.written ≡ out_old.written ++ added out_old out_new
  pub undecided : IsTrue tells → result ≡ Err ReadFault
      → drat_steps_verdict_by same (standing places) false (so_far drat_form reader (gained in_old in_new)) ≡ None
  pub wants : IsTrue tells → result ≡ Err OutOfMemory → Decides in_old in_new
      (λ bytes more. IsTrue (drat_reading_may_want_memory same (length more) (standing places) (wants_ahead drat_form reader bytes)))
  pub read_fault : result ≡ Err ReadFault → Rose in_old.faults in_new.faults
  pub write_fault : result ≡ Err WriteFault → Rose out_old.faults out_new.faults
  pub unfailed_reads : result ≢ Err ReadFault → in_new.faults ≡ in_old.faults
  pub unfailed_writes : result ≢ Err WriteFault → out_new.faults ≡ out_old.faults
  pub reads : OnlyReads in_old in_new
  pub writes : OnlyWrites out_old out_new

-- The whole proof that is ahead of a new reader was converted from the formula's clauses on: the beginning was written before the steps.
pub record ConvertsFrom (tells : Bool) (in_old in_new out_old out_new : Channel) (same : Equality) (clauses : List (List ℤ))
    (reader : ReaderOf DratDraft) (result : Result Verdict ConvertError) : Type 0 where
  pub decides : IsTrue tells → Decides in_old in_new
      (λ bytes more. HasVerdict result (drat_steps_verdict_by same clauses false (steps_ahead drat_form reader bytes)))
  pub written : IsTrue tells → HasSteps result (start clauses) (added out_old out_new)
  pub lines : IsTrue tells → Decides in_old in_new
      (λ bytes more. HasLines result (beginning clauses ++ lrat_of same (map Some clauses) (steps_ahead drat_form reader bytes))
      (added out_old out_new))
  pub appended : IsTrue tells → out_new.written ≡ out_old.written ++ added out_old out_new
  pub undecided : IsTrue tells → result ≡ Err ReadFault
      → drat_steps_verdict_by same clauses false (so_far drat_form reader (gained in_old in_new)) ≡ None
  pub wants : IsTrue tells → result ≡ Err OutOfMemory → (in_new ≡ in_old) ⊎ Decides in_old in_new
      (λ bytes more. IsTrue (drat_reading_may_want_memory same (length more) clauses (wants_ahead drat_form reader bytes)))
  pub read_fault : result ≡ Err ReadFault → Rose in_old.faults in_new.faults
  pub write_fault : result ≡ Err WriteFault → Rose out_old.faults out_new.faults
  pub unfailed_reads : result ≢ Err ReadFault → in_new.faults ≡ in_old.faults
  pub unfailed_writes : result ≢ Err WriteFault → out_new.faults ≡ out_old.faults
  pub reads : OnlyReads in_old in_new
  pub writes : OnlyWrites out_old out_new
