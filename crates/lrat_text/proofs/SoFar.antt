-- What the bytes that a call took decide as the front of a longer text.
use Rattle.std.proofs.Common.{◌≡◌, ◌≢◌, ℕ, true, false, List, ◌++◌, Option, Some, None, Result, Ok, Err, ◌==◌, refl, sym, ◌∙◌, ap, arith}
use Rattle.std.specs.Prelude.{Bool, IsTrue, is_some, nat_lt}
use Rattle.std.proofs.lemmas.Bool.Decides.{nat_tests}
use Rattle.cnf_base.specs.Text.{Word}
use Rattle.text_scan.specs.Items.{too_long, next_word}
use Rattle.text_scan.specs.declared.scanner.ScanStatus.TheVariants.{Reading as Scanning, Ended as ScanEnded, Overlong, Faulted}
use Rattle.text_scan.specs.declared.scanner.ScanError.TheVariants.{ReadFault as ScanFault}
use Rattle.text_scan.specs.Scan.{Scan, so_far as scan_so_far, is_reading as is_scanning, is_faulted, last_answer as last_scanned}
use Rattle.lrat_text.specs.declared.error.StepError.{StepError}
use Rattle.lrat_text.specs.declared.error.StepError.TheVariants.{Syntax, ReadFault, TooLong, OutOfMemory}
use Rattle.lrat_text.specs.Form.{Form}
use Rattle.lrat_text.specs.LineSteps.{overlong, broken_off}
use Rattle.lrat_text.specs.LineReader.{ReaderOf, AnswerOf, drafted, given, GivesSoFar, Settles, so_far}

-- an error is the same with a step beside it
pub given_err : {Step : Type 0} (step : Step) (r : Result (Option ℕ) StepError) (error : StepError) → given step r ≡ Err error → r ≡ Err error
given_err step (Ok None) error h = cc
given_err step (Ok (Some at)) error h = cc
given_err step (Err other) error h = cc

-- a scanner that reads now did so before
pub scanned : (old new : Scan) → (is_scanning old.status ≡ false → new ≡ old) → is_scanning new.status ≡ true → is_scanning old.status
    ≡ true
scanned old new stopped reading =
    elim (is_scanning old.status) as (λ b. is_scanning old.status ≡ b → b ≡ true) [
      | true ↦ λ h. refl
      | false ↦ λ h. sym h ∙ sym (ap (λ (s : Scan). is_scanning s.status) (stopped h)) ∙ reading
    ] refl

-- so did one whose read failed now
pub scanned_fault : (scan : Scan) → is_faulted scan.status ≡ false
    → (is_scanning scan.status ≡ false → last_scanned scan.status ≡ Err ScanFault) → is_scanning scan.status ≡ true
scanned_fault scan sound stopped =
    elim scan.status as (λ s. is_faulted s ≡ false → (is_scanning s ≡ false → last_scanned s ≡ Err ScanFault) → is_scanning s ≡ true) [
      | Scanning ↦ λ f h. refl
      | ScanEnded ↦ λ f h. (let e = h refl in cc)
      | Overlong ↦ λ f h. (let e = h refl in cc)
      | Faulted ↦ λ f h. cc
    ] sound stopped

module _ {Draft Step : Type 0} (form : Form Draft Step) where
  -- where the text breaks off, the line that is begun isn't ended
  pub off_overlong : (draft : Draft) (line : ℕ) → drafted form (broken_off (too_long line)) draft ≡ overlong
  off_overlong draft line = let e : nat_lt (form.line draft) 0 ≡ false = grind (arith, nat_tests) in rw e refl

  -- at a token of another line
  pub before_so_far : (r : AnswerOf Step) (word : Word) (first old new : ReaderOf Draft) (bytes : List ℕ) → Settles form r (form.of_word word) old new
      → form.is_begun old.draft ≡ true → (form.line old.draft == word.line) ≡ false
      → (is_scanning old.scan.status ≡ true → is_scanning first.scan.status ≡ true)
      → (is_scanning old.scan.status ≡ true → (more : List ℕ) → so_far form first (bytes ++ more)
      ≡ drafted form (next_word word (broken_off (scan_so_far old.scan more))) old.draft)
      → GivesSoFar form r first new bytes
  before_so_far (Ok None) word first old new bytes s begun differs scanned front = tt
  before_so_far (Ok (Some (step, at))) word first old new bytes s begun differs scanned front = λ reading.
      let scanning : is_scanning old.scan.status ≡ true = sym (ap (λ (r : ReaderOf Draft). is_scanning r.scan.status) s.2) ∙ reading in
      (scanned scanning, λ more. front scanning more ∙ rw (begun, differs, s.0, s.1, s.2) refl)
  before_so_far (Err (Syntax at)) word first old new bytes s begun differs scanned front = tt
  before_so_far (Err TooLong) word first old new bytes s begun differs scanned front = tt
  before_so_far (Err ReadFault) word first old new bytes s begun differs scanned front = absurd s
  before_so_far (Err OutOfMemory) word first old new bytes s begun differs scanned front = tt

  -- at the end and at the limit
  pub stopped_so_far : (r : AnswerOf Step) (first new : ReaderOf Draft) (bytes : List ℕ) → is_scanning new.scan.status ≡ false → (r ≢ Err ReadFault)
      → GivesSoFar form r first new bytes
  stopped_so_far (Ok None) first new bytes stopped unfailed = tt
  stopped_so_far (Ok (Some (step, at))) first new bytes stopped unfailed = λ reading. cc
  stopped_so_far (Err (Syntax at)) first new bytes stopped unfailed = tt
  stopped_so_far (Err TooLong) first new bytes stopped unfailed = tt
  stopped_so_far (Err ReadFault) first new bytes stopped unfailed = absurd (unfailed refl)
  stopped_so_far (Err OutOfMemory) first new bytes stopped unfailed = tt

  -- where memory was wanted for a step, its line has numbers
  pub settled_memory : ((draft : Draft) → is_some (form.judged draft) ≡ true → form.has_numbers draft ≡ true)
      → (r : AnswerOf Step) (next : Draft) (old new : ReaderOf Draft) → Settles form r next old new → r ≡ Err OutOfMemory
      → IsTrue (form.has_numbers new.draft)
  settled_memory numbers (Ok None) next old new s is = absurd s
  settled_memory numbers (Ok (Some (step, at))) next old new s is = cc
  settled_memory numbers (Err (Syntax at)) next old new s is = cc
  settled_memory numbers (Err TooLong) next old new s is = absurd s
  settled_memory numbers (Err ReadFault) next old new s is = absurd s
  settled_memory numbers (Err OutOfMemory) next old new s is = rw s.1 (numbers old.draft s.0)

  pub last_memory : ((draft : Draft) → is_some (form.judged draft) ≡ true → form.has_numbers draft ≡ true)
      → (last : Bool) (step : Step) (r : Result (Option ℕ) StepError) (next : Draft) (old new : ReaderOf Draft)
      → (last ≡ true → Settles form (given step r) next old new) → (last ≡ false → r ≢ Err OutOfMemory) → r ≡ Err OutOfMemory
      → IsTrue (form.has_numbers new.draft)
  last_memory numbers true step r next old new settles none is =
      settled_memory numbers (given step r) next old new (settles refl) (ap (given step) is)
  last_memory numbers false step r next old new settles none is = absurd (none refl is)
