-- What a judge says of the steps that it takes, and of the calls by which they are read.
use Rattle.std.specs.Prelude.{◌≡◌, ◌≢◌, Bool, length, Option, None, Some, Result, Ok, Err, IsTrue}
use Rattle.host_io.specs.Beside.{Beside}
use Rattle.host_io.specs.Channel.{Channel, Rose}
use Rattle.text_scan.specs.Decides.{gained, Decides, OnlyReads}
use Rattle.lrat_text.specs.declared.error.StepError.TheVariants.{ReadFault as FailedRead}
use Rattle.lrat_text.specs.Form.{Form}
use Rattle.lrat_text.specs.LineReader.{AnswerOf, ReaderOf, Gives, GivesSoFar, Moves, steps_ahead, so_far}
use Rattle.lrat_text.specs.LineWants.{Spends, wants_ahead}
use Rattle.lrat_rules.specs.declared.outcome.Reason.{Reason}
use Rattle.proof_judging.specs.declared.verdict.Verdict.{Verdict}
use Rattle.proof_judging.specs.declared.verdict.CheckError.{CheckError}
use Rattle.proof_judging.specs.declared.verdict.CheckError.TheVariants.{ReadFault, TooLong, OutOfMemory}
use Rattle.proof_judging.specs.Verdict.{Format}

-- A judge stands at a place of the proof, by the rules of a format, and tells at which steps it may want memory. What it does beside that,
-- such as writing to the world, is its work: what reading does there, and what taking a step does, where an earlier one did or didn't add
-- the empty clause. Why there is no verdict the judge tells in its own way.
pub record Rules (Judge World Step Error : Type 0) : Type 1 where
  pub Place : Type 0
  pub place : Judge → Place
  pub format : Format Place Step
  pub may_want : Place → Step → Bool
  pub Work : Type 0
  pub work : Judge → World → Work
  pub reads : Work → Work → Type 0
  pub does : Place → Work → Work → Bool → Step → Result (Option Reason) Error → Type 0
  pub told : CheckError → Error

-- The rules of a check, in which nothing is written: a source is only read, and what is beside it stays.
abbrev pub checking_rules : {Judge Source Place Step : Type 0} → Format Place Step → (Place → Step → Bool) → (Judge → Place)
    → (Source → Beside) → Rules Judge Source Step CheckError
checking_rules {Judge} {Source} {Place} format may_want place beside = record {
  Place = Place;
  place = place;
  format = format;
  may_want = may_want;
  Work = Beside;
  work = λ judge source. beside source;
  reads = λ old new. new ≡ old;
  does = λ place old new has step result. new ≡ old;
  told = λ error. error;
}

-- no two are told alike
abbrev pub AreApart : {Error : Type 0} → (CheckError → Error) → Type 0
AreApart told = (first second : CheckError) → told first ≡ told second → first ≡ second

-- no verdict, as the judge tells it
abbrev pub told_by : {Error : Type 0} → (CheckError → Error) → Result Verdict CheckError → Result Verdict Error
told_by told (Ok verdict) = Ok verdict
told_by told (Err error) = Err (told error)

-- Why a step comes to no answer: it is nothing that only the reader can meet, and want of memory only where the step may want it.
pub record IsWhy {Error : Type 0} (told : CheckError → Error) (may_want : Bool) (error : Error) : Type 0 where
  pub no_fault : error ≢ told ReadFault
  pub no_limit : error ≢ told TooLong
  pub memory : error ≡ told OutOfMemory → IsTrue may_want

-- A step was judged by the rules: a good one leads on.
abbrev pub Judges : {Judge World Step Error : Type 0} → (rules : Rules Judge World Step Error) → rules.Place → rules.Place → Step
    → Result (Option Reason) Error → Type 0
Judges rules old new step (Ok None) = (rules.format.fault old step ≡ None) × (new ≡ rules.format.after old step)
Judges rules old new step (Ok (Some reason)) = rules.format.fault old step ≡ Some reason
Judges rules old new step (Err error) = IsWhy rules.told (rules.may_want old step) error

-- The next step was read, as a reader of proofs tells it.
pub record ReadsStep {Draft Step : Type 0} (form : Form Draft Step) (tells : Bool) (old new : Channel) (before after : ReaderOf Draft)
    (answer : AnswerOf Step) : Type 0 where
  pub gives : IsTrue tells → Decides old new
      (λ bytes more. Gives answer after.line (steps_ahead form before bytes) (steps_ahead form after more))
  pub so_far : IsTrue tells → GivesSoFar form answer before after (gained old new)
  pub moves : Moves form answer before after
  pub spends : IsTrue tells → Decides old new
      (λ bytes more. Spends answer (length more) (wants_ahead form before bytes) (wants_ahead form after more))
  pub fault : answer ≡ Err FailedRead → Rose old.faults new.faults
  pub unfailed : answer ≢ Err FailedRead → new.faults ≡ old.faults
  pub reads : OnlyReads old new
