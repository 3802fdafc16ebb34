-- For what a reader of a proof may want memory, in the order of the text: for each number that it keeps of a line, and for the step of
-- a line that is ended. Of a line whose tokens so far aren't all numbers nothing is kept, nor behind a line that spells no step.
use Rattle.std.specs.Prelude.{◌≡◌, ℕ, ◌+◌, Bool, false, ◌||◌, List, Option, None, Some, Ok, Err, ⊤, IsTrue}
use Rattle.std.specs.Prelude.{nat_lt, nat_le, ◌==◌, if◌then◌else◌}
use Rattle.text_scan.specs.Items.{Items, the_end, too_long, next_word, items}
use Rattle.text_scan.specs.Scan.{block_size, ahead}
use Rattle.lrat_text.specs.declared.error.StepError.TheVariants.{Syntax, ReadFault, TooLong, OutOfMemory}
use Rattle.lrat_text.specs.Form.{Form}
use Rattle.lrat_text.specs.LineReader.{ReaderOf, AnswerOf}

pub data WantsOf (Step : Type 0) : Type 0 where
  no_further : WantsOf Step
  for_number : WantsOf Step → WantsOf Step
  for_step : Step → WantsOf Step → WantsOf Step

-- a token behind the first was taken, and the line is so now
abbrev pub number_then : {Draft Step : Type 0} → Form Draft Step → Draft → WantsOf Step → WantsOf Step
number_then form draft wants = if form.keeps_number draft then for_number wants else wants

-- a line is ended
abbrev pub spelled_then : {Step : Type 0} → Option Step → WantsOf Step → WantsOf Step
spelled_then None wants = no_further
spelled_then (Some step) wants = for_step step wants

abbrev pub ended_then : {Draft Step : Type 0} → Form Draft Step → Draft → WantsOf Step → WantsOf Step
ended_then form draft wants = if form.is_begun draft then spelled_then (form.judged draft) wants else wants

-- what these tokens go on with
abbrev pub wants_after : {Draft Step : Type 0} → Form Draft Step → Items → Draft → WantsOf Step
wants_after form (the_end line) draft = ended_then form draft no_further
wants_after form (too_long line) draft = if nat_lt (form.line draft) line then ended_then form draft no_further else no_further
wants_after form (next_word word items) draft =
    if form.is_begun draft
    then if form.line draft == word.line
    then number_then form (form.with_word draft word) (wants_after form items (form.with_word draft word))
    else spelled_then (form.judged draft) (wants_after form items (form.of_word word))
    else wants_after form items (form.of_word word)

-- a whole proof text, of which as many bytes are looked at as the limit says (99 is `c`)
abbrev pub wants_of : {Draft Step : Type 0} → Form Draft Step → ℕ → List ℕ → WantsOf Step
wants_of form limit bytes = wants_after form (items 99 limit bytes) form.no_draft

-- what is still ahead of a reader, where these bytes follow those taken
abbrev pub wants_ahead : {Draft Step : Type 0} → Form Draft Step → ReaderOf Draft → List ℕ → WantsOf Step
wants_ahead form reader more = wants_after form (ahead reader.scan more) reader.draft

-- how many numbers are kept
abbrev pub numbers_in : {Step : Type 0} → WantsOf Step → ℕ
numbers_in no_further = 0
numbers_in (for_number wants) = numbers_in wants + 1
numbers_in (for_step step wants) = numbers_in wants

-- No more numbers come than stand in a block of bytes that isn't looked at yet, with the token that it begins in, and in so many bytes
-- that follow it.
abbrev pub is_near : {Step : Type 0} → ℕ → WantsOf Step → Bool
is_near more wants = nat_le (numbers_in wants) (block_size + 1 + more)

-- the step that comes next, and what comes behind it
abbrev pub from_step : {Step : Type 0} → WantsOf Step → WantsOf Step
from_step no_further = no_further
from_step (for_number wants) = from_step wants
from_step (for_step step wants) = for_step step wants

-- Memory may be wanted for that step, or for a number of its line, where so many bytes follow those taken.
abbrev pub may_want : {Step : Type 0} → ℕ → WantsOf Step → Bool
may_want more no_further = false
may_want more (for_number wants) = is_near more wants || may_want more wants
may_want more (for_step step wants) = is_near more wants

-- A call's answer is the next step; want of memory was for it, or for a number of its line.
abbrev pub Spends : {Step : Type 0} → AnswerOf Step → ℕ → WantsOf Step → WantsOf Step → Type 0
Spends (Ok (Some (step, at))) more before after = from_step before ≡ for_step step after
Spends (Ok None) more before after = ⊤
Spends (Err (Syntax at)) more before after = ⊤
Spends (Err ReadFault) more before after = ⊤
Spends (Err TooLong) more before after = ⊤
Spends (Err OutOfMemory) more before after = IsTrue (may_want more before)

-- Numbers of the line were kept from the one to the other, or nothing.
pub record Leads {Step : Type 0} (before after : WantsOf Step) : Type 0 where
  pub same : from_step before ≡ from_step after
  pub wants : (more : ℕ) → IsTrue (may_want more after) → IsTrue (may_want more before)
