-- A reader of proofs as its callers see it, in any form of lines, and what a call gives.
use Rattle.std.specs.Prelude.{◌≡◌, ◌≢◌, ℕ, ℤ, ◌+◌, ◌<◌, ◌≤◌, Bool, true, false, List, ◌++◌, Option, None, Some, is_some, Result, Ok, Err}
use Rattle.std.specs.Prelude.{IsTrue, ⊤, ◌&&◌, nat_lt, ◌==◌, if◌then◌else◌}
use Rattle.cnf_base.specs.Text.{Word}
use Rattle.text_scan.specs.Items.{Items, the_end, too_long, next_word}
use Rattle.text_scan.specs.Scan.{Scan, TookNumber, ahead, so_far as scan_so_far, is_reading as is_scanning, is_faulted, fuel as scan_fuel}
use Rattle.lrat_text.specs.declared.error.StepError.{StepError}
use Rattle.lrat_text.specs.declared.error.StepError.TheVariants.{Syntax, ReadFault, TooLong, OutOfMemory}
use Rattle.lrat_text.specs.declared.reader.ReaderStatus.{ReaderStatus}
use Rattle.lrat_text.specs.declared.reader.ReaderStatus.TheVariants.{Reading, Ended, Failed}
use Rattle.lrat_text.specs.Form.{Form}
use Rattle.lrat_text.specs.LineSteps.{StepsOf, no_more, overlong, no_step, next_step, step_then, broken_off}

-- The scanner, the line that isn't ended, whether it still reads, and the line that it answers.
pub record ReaderOf (Draft : Type 0) : Type 0 where
  pub scan : Scan
  pub draft : Draft
  pub status : ReaderStatus
  pub line : ℕ

-- the line that is begun, and behind it those steps
abbrev pub draft_then : {Draft Step : Type 0} → Form Draft Step → Draft → StepsOf Step → StepsOf Step
draft_then form draft steps = if form.is_begun draft then step_then (form.judged draft) (form.line draft) steps else steps

-- a token of the line, or the first of one
abbrev pub with_token : {Draft Step : Type 0} → Form Draft Step → Draft → Word → Draft
with_token form draft word = if form.is_begun draft then form.with_word draft word else form.of_word word

-- the steps that these tokens go on with
abbrev pub drafted : {Draft Step : Type 0} → Form Draft Step → Items → Draft → StepsOf Step
drafted form (the_end line) draft = draft_then form draft (no_more line)
drafted form (too_long line) draft = if nat_lt (form.line draft) line then draft_then form draft overlong else overlong
drafted form (next_word word items) draft =
    if form.is_begun draft
    then if form.line draft == word.line then drafted form items (form.with_word draft word)
    else step_then (form.judged draft) (form.line draft) (drafted form items (form.of_word word))
    else drafted form items (form.of_word word)

-- the steps that are still to be given, where these bytes follow those taken
abbrev pub steps_in : {Draft Step : Type 0} → Form Draft Step → ReaderStatus → ReaderOf Draft → List ℕ → StepsOf Step
steps_in form Reading reader more = drafted form (ahead reader.scan more) reader.draft
steps_in form Ended reader more = no_more reader.line
steps_in form (Failed (Syntax line)) reader more = no_step line
steps_in form (Failed TooLong) reader more = overlong
steps_in form (Failed ReadFault) reader more = drafted form (ahead reader.scan more) reader.draft
steps_in form (Failed OutOfMemory) reader more = drafted form (ahead reader.scan more) reader.draft

abbrev pub steps_ahead : {Draft Step : Type 0} → Form Draft Step → ReaderOf Draft → List ℕ → StepsOf Step
steps_ahead form reader more = steps_in form reader.status reader more

-- the steps that the bytes taken decide where these follow them, if all of them are the front of a longer text
abbrev pub so_far : {Draft Step : Type 0} → Form Draft Step → ReaderOf Draft → List ℕ → StepsOf Step
so_far form reader more = drafted form (broken_off (scan_so_far reader.scan more)) reader.draft

abbrev pub is_reading : ReaderStatus → Bool
is_reading Reading = true
is_reading Ended = false
is_reading (Failed error) = false

-- how many more steps can be given at most, so that a loop over them ends whatever the source does
abbrev pub open_count : {Draft Step : Type 0} → Form Draft Step → Draft → ℕ
open_count form draft = if form.is_begun draft then 1 else 0

abbrev pub fuel_in : {Draft Step : Type 0} → Form Draft Step → ReaderStatus → ReaderOf Draft → ℕ
fuel_in form Reading reader = scan_fuel reader.scan + open_count form reader.draft
fuel_in form Ended reader = 0
fuel_in form (Failed error) reader = 0

abbrev pub fuel : {Draft Step : Type 0} → Form Draft Step → ReaderOf Draft → ℕ
fuel form reader = fuel_in form reader.status reader

-- what a call answers, told with the step
abbrev pub AnswerOf : Type 0 → Type 0
AnswerOf Step = Result (Option (Step × ℕ)) StepError

-- the answer of a call after which this step stands in a place of the caller's
abbrev pub given : {Step : Type 0} → Step → Result (Option ℕ) StepError → AnswerOf Step
given step (Ok (Some at)) = Ok (Some (step, at))
given step (Ok None) = Ok None
given step (Err error) = Err error

-- An answer, and the line that the reader then answers, are the first of the steps ahead; those after it are ahead
-- now. A failed read and want of memory say nothing of the text.
abbrev pub Gives : {Step : Type 0} → AnswerOf Step → ℕ → StepsOf Step → StepsOf Step → Type 0
Gives (Ok (Some (step, at))) line before after = before ≡ next_step step at after
Gives (Ok None) line before after = (before ≡ no_more line) × (after ≡ no_more line)
Gives (Err (Syntax at)) line before after = (before ≡ no_step at) × (after ≡ no_step at)
Gives (Err TooLong) line before after = (before ≡ overlong) × (after ≡ overlong)
Gives (Err ReadFault) line before after = ⊤
Gives (Err OutOfMemory) line before after = ⊤

-- What the bytes that a call took decide as the front of a longer text: the step is the first, unless the end of the
-- text ended its line. Where a read failed, they decided none: no line that was ended is left.
abbrev pub GivesSoFar : {Draft Step : Type 0} → Form Draft Step → AnswerOf Step → ReaderOf Draft → ReaderOf Draft → List ℕ → Type 0
GivesSoFar form (Ok (Some (step, at))) old new bytes =
    is_scanning new.scan.status ≡ true → (is_scanning old.scan.status ≡ true)
    × ((more : List ℕ) → so_far form old (bytes ++ more) ≡ next_step step at (so_far form new more))
GivesSoFar form (Ok None) old new bytes = ⊤
GivesSoFar form (Err (Syntax at)) old new bytes = ⊤
GivesSoFar form (Err TooLong) old new bytes = ⊤
GivesSoFar form (Err ReadFault) old new bytes = (is_scanning old.scan.status ≡ true) × (so_far form old bytes ≡ overlong)
GivesSoFar form (Err OutOfMemory) old new bytes = ⊤

-- A step was given: its line is answered, the reader reads on, and fewer can come.
pub record GaveStep {Draft Step : Type 0} (form : Form Draft Step) (at : ℕ) (old new : ReaderOf Draft) : Type 0 where
  pub line : new.line ≡ at
  pub reading : new.status ≡ Reading
  pub less : fuel form new < fuel form old

-- What a call makes of the reader, whatever the source does: after the end or an error it has stopped.
abbrev pub Moves : {Draft Step : Type 0} → Form Draft Step → AnswerOf Step → ReaderOf Draft → ReaderOf Draft → Type 0
Moves form (Ok (Some (step, at))) old new = GaveStep form at old new
Moves form (Ok None) old new = new.status ≡ Ended
Moves form (Err error) old new = (new.status ≡ Failed error) × (new.line ≡ old.line)

-- the answer of a reader that has stopped
abbrev pub last_answer : {Step : Type 0} → ReaderStatus → AnswerOf Step
last_answer Reading = Ok None
last_answer Ended = Ok None
last_answer (Failed error) = Err error

-- Within a call. The line that is begun has its end under the limit, where the scanner has stopped at it.
abbrev pub is_under : {Draft Step : Type 0} → Form Draft Step → ReaderOf Draft → Bool
is_under form reader = form.is_begun reader.draft && nat_lt (form.line reader.draft) reader.scan.line

-- the line that is begun was judged, and this step stands in the caller's place; memory is wanted only where it spells a step
abbrev pub Judges : {Draft Step : Type 0} → Form Draft Step → Result ℕ StepError → Step → ReaderOf Draft → ReaderOf Draft → Type 0
Judges form (Ok at) step old new = (form.judged old.draft ≡ Some step) × (at ≡ form.line old.draft) × (new ≡ record old { line = at })
Judges form (Err (Syntax at)) step old new = (form.judged old.draft ≡ None) × (at ≡ form.line old.draft)
    × (new ≡ record old { status = Failed (Syntax at) })
Judges form (Err TooLong) step old new = ⊥
Judges form (Err ReadFault) step old new = ⊥
Judges form (Err OutOfMemory) step old new = IsTrue (is_some (form.judged old.draft)) × (new ≡ record old { status = Failed OutOfMemory })

-- More tokens of the line that is begun were taken, and nothing was read: what is ahead is as it was.
pub record GoesOn {Draft Step : Type 0} (form : Form Draft Step) (old new : ReaderOf Draft) : Type 0 where
  pub steps : (more : List ℕ) → drafted form (ahead old.scan more) old.draft ≡ drafted form (ahead new.scan more) new.draft
  pub so_far : (more : List ℕ) → so_far form old more ≡ so_far form new more
  pub scanning : is_scanning new.scan.status ≡ is_scanning old.scan.status
  pub faulted : is_faulted new.scan.status ≡ is_faulted old.scan.status
  pub begun : form.is_begun new.draft ≡ form.is_begun old.draft
  pub status : new.status ≡ old.status
  pub line : new.line ≡ old.line
  pub less : scan_fuel new.scan ≤ scan_fuel old.scan

-- A token of another line than the one that is begun was taken, which spells this number.
pub record BeginsLine {Draft Step : Type 0} (form : Form Draft Step) (number : ℤ) (old new : ReaderOf Draft) : Type 0 where
  pub begun : form.is_begun old.draft ≡ true
  pub took : TookNumber number new.scan.line old.scan new.scan
  pub other : new.scan.line ≢ form.line old.draft
  pub rest : new ≡ record old { scan = new.scan }

-- it was judged and is given, and this line is begun now
abbrev pub Settles : {Draft Step : Type 0} → Form Draft Step → AnswerOf Step → Draft → ReaderOf Draft → ReaderOf Draft → Type 0
Settles form (Ok (Some (step, at))) next old new = (form.judged old.draft ≡ Some step) × (at ≡ form.line old.draft)
    × (new ≡ record { scan = old.scan; draft = next; status = Reading; line = at })
Settles form (Ok None) next old new = ⊥
Settles form (Err (Syntax at)) next old new = (form.judged old.draft ≡ None) × (at ≡ form.line old.draft)
    × (new ≡ record old { status = Failed (Syntax at) })
Settles form (Err TooLong) next old new = ⊥
Settles form (Err ReadFault) next old new = ⊥
Settles form (Err OutOfMemory) next old new = IsTrue (is_some (form.judged old.draft))
    × (new ≡ record old { status = Failed OutOfMemory })
