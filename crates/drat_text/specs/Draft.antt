-- A DRAT line as it is read: whether it adds or deletes, and its numbers so far, nothing where a token is none.
use Rattle.std.specs.Prelude.{ℕ, Bool, true, false, ℤ, List, [], ◌∷◌, Option, None, Some, is_some, if◌then◌else◌}
use Rattle.std.specs.Option.{option_map, option_and_then}
use Rattle.cnf_base.specs.Text.{Word}
use Rattle.cnf_base.specs.ProofText.{is_delete_word}
use Rattle.lrat_text.specs.Form.{Form}
use Rattle.lrat_text.specs.Numbers.{signed_word}
use Rattle.lrat_text.specs.Draft.{with_given, keeps_number}
use Rattle.drat_text.specs.declared.line.DratKind.{DratKind}
use Rattle.drat_text.specs.declared.line.DratKind.TheVariants.{Empty, Adds, Deletes}
use Rattle.drat_text.specs.declared.step.DratStep.{DratStep}
use Rattle.drat_text.specs.declared.step.DratStep.TheVariants.{Add as adds, Delete as deletes}
use Rattle.drat_text.specs.DratText.{clause_from, drat_step_of}

pub record DratDraft : Type 0 where
  pub line : ℕ
  pub kind : DratKind
  pub numbers : Option (List ℤ)

-- the numbers of a line, of which the first of an addition is kept apart
abbrev pub all_numbers : DratKind → ℤ → List ℤ → List ℤ
all_numbers Empty first numbers = numbers
all_numbers Adds first numbers = first ∷ numbers
all_numbers Deletes first numbers = numbers

abbrev pub draft_on : ℕ → DratKind → Option (List ℤ) → DratDraft
draft_on line kind numbers = record { line = line; kind = kind; numbers = numbers }

abbrev pub no_drat : DratDraft
no_drat = draft_on 0 Empty (Some [])

-- the line that begins with this token
abbrev pub drat_of_word : Word → DratDraft
drat_of_word word =
    if is_delete_word word.bytes then draft_on word.line Deletes (Some [])
    else draft_on word.line Adds (with_given (Some []) (signed_word word.bytes))

abbrev pub drat_of_number : ℕ → ℤ → DratDraft
drat_of_number line number = draft_on line Adds (Some (number ∷ []))

-- one more token
abbrev pub drat_with : DratDraft → Option ℤ → DratDraft
drat_with draft number = draft_on draft.line draft.kind (with_given draft.numbers number)

-- the step that the line spells, if it spells one
abbrev pub judged_in : DratKind → List ℤ → Option DratStep
judged_in Empty numbers = None
judged_in Adds numbers = option_map adds (clause_from numbers)
judged_in Deletes numbers = option_map deletes (clause_from numbers)

abbrev pub drat_judged : DratDraft → Option DratStep
drat_judged draft = option_and_then (judged_in draft.kind) draft.numbers

abbrev pub is_begun_kind : DratKind → Bool
is_begun_kind Empty = false
is_begun_kind Adds = true
is_begun_kind Deletes = true

-- the form of the lines of a DRAT proof
abbrev pub drat_form : Form DratDraft DratStep
drat_form = record {
  step_of = drat_step_of;
  no_draft = no_drat;
  is_begun = λ draft. is_begun_kind draft.kind;
  line = λ draft. draft.line;
  of_word = drat_of_word;
  of_number = drat_of_number;
  with_word = λ draft word. drat_with draft (signed_word word.bytes);
  with_number = λ draft number. drat_with draft (Some number);
  has_numbers = λ draft. is_some draft.numbers;
  keeps_number = λ draft. keeps_number draft.numbers;
  judged = drat_judged;
}
