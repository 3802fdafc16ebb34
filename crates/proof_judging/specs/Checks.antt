-- What the answer of a run says of the text that was read, by the rules of its format.
use Rattle.std.specs.Prelude.{◌≡◌, ◌≢◌, Bool, false, length, Option, None, Some, Result, Ok, Err, IsTrue}
use Rattle.host_io.specs.Channel.{Channel, Rose}
use Rattle.text_scan.specs.Decides.{gained, Decides, OnlyReads}
use Rattle.lrat_text.specs.Form.{Form}
use Rattle.lrat_text.specs.LineReader.{ReaderOf, steps_ahead, so_far}
use Rattle.lrat_text.specs.LineWants.{wants_ahead}
use Rattle.proof_judging.specs.declared.verdict.Verdict.{Verdict}
use Rattle.proof_judging.specs.declared.verdict.CheckError.{CheckError}
use Rattle.proof_judging.specs.declared.verdict.CheckError.TheVariants.{ReadFault, TooLong, OutOfMemory}
use Rattle.proof_judging.specs.Verdict.{Format, verdict_by, wanted_by}

-- The answer is what the text says. Other wants of a verdict than a text that is too long say nothing of it.
abbrev pub AnswersBy : {Error : Type 0} → (CheckError → Error) → Result Verdict Error → Option Verdict → Type 0
AnswersBy told (Ok verdict) text = text ≡ Some verdict
AnswersBy told (Err error) text = error ≡ told TooLong → text ≡ None

-- The answer is that of the bytes that were taken and whatever may follow them. A read fails only where the bytes taken decide nothing yet,
-- and is told as nothing else. Memory is wanted only at a place that the text tells.
pub record Checks {Draft Place Step Error : Type 0} (form : Form Draft Step) (tells : Bool) (format : Format Place Step)
    (told : CheckError → Error) (old new : Channel) (place : Place) (reader : ReaderOf Draft) (result : Result Verdict Error) : Type 0 where
  pub decides : IsTrue tells → Decides old new
      (λ bytes more. AnswersBy told result (verdict_by format place false (steps_ahead form reader bytes)))
  pub undecided : IsTrue tells → result ≡ Err (told ReadFault) → verdict_by format place false (so_far form reader (gained old new)) ≡ None
  pub wants : IsTrue tells → result ≡ Err (told OutOfMemory) → Decides old new
      (λ bytes more. IsTrue (wanted_by format (length more) place (wants_ahead form reader bytes)))
  pub fault : result ≡ Err (told ReadFault) → Rose old.faults new.faults
  pub unfailed : result ≢ Err (told ReadFault) → new.faults ≡ old.faults
  pub reads : OnlyReads old new
