-- A line as it is read: which kind of step it is, its first number, and the numbers behind, nothing where a token or
-- the first one is none.
use Rattle.std.specs.Prelude.{ℕ, Bool, true, false, ℤ, pos, negsuc, List, [], ◌∷◌, ◌++◌, Option, None, Some, is_some}
use Rattle.std.specs.Prelude.{if◌then◌else◌}
use Rattle.std.specs.Option.{option_map, option_and_then}
use Rattle.cnf_base.specs.declared.step.Step.{Step}
use Rattle.cnf_base.specs.Number.{plain_number}
use Rattle.cnf_base.specs.Text.{Word}
use Rattle.cnf_base.specs.ProofText.{is_delete_word, step_of}
use Rattle.lrat_text.specs.declared.draft.Kind.{Kind}
use Rattle.lrat_text.specs.declared.draft.Kind.TheVariants.{Empty, Begun, Adds, Deletes}
use Rattle.text_scan.specs.Capped.{capped}
use Rattle.lrat_text.specs.Form.{Form}
use Rattle.lrat_text.specs.Numbers.{signed_word, plain_word, deletion_from, addition_by}

pub record DraftLine : Type 0 where
  pub line : ℕ
  pub kind : Kind
  pub id : Option ℕ
  pub numbers : Option (List ℤ)

abbrev pub no_draft : DraftLine
no_draft = record { line = 0; kind = Empty; id = None; numbers = Some [] }

-- these numbers behind a first token, where that is a number
abbrev pub behind : Option ℕ → Option (List ℤ) → Option (List ℤ)
behind None numbers = None
behind (Some id) numbers = numbers

abbrev pub draft_from : ℕ → Option ℕ → DraftLine
draft_from line id = record { line = line; kind = Begun; id = id; numbers = behind id (Some []) }

abbrev pub draft_of_word : Word → DraftLine
draft_of_word word = draft_from word.line (option_map capped (plain_number word.bytes))

-- the line that begins with a token that spells this number
abbrev pub first_number : ℤ → Option ℕ
first_number (pos n) = Some n
first_number (negsuc n) = None

abbrev pub draft_of_number : ℕ → ℤ → DraftLine
draft_of_number line number = draft_from line (first_number number)

-- one more number behind
abbrev pub with_given : Option (List ℤ) → Option ℤ → Option (List ℤ)
with_given None number = None
with_given (Some numbers) None = None
with_given (Some numbers) (Some number) = Some (numbers ++ number ∷ [])

abbrev pub draft_as : DraftLine → Kind → Option (List ℤ) → DraftLine
draft_as draft kind numbers = record { line = draft.line; kind = kind; id = draft.id; numbers = numbers }

-- one more token behind the first
abbrev pub draft_with_in : Kind → DraftLine → Word → DraftLine
draft_with_in Empty draft word = draft
draft_with_in Begun draft word =
    if is_delete_word word.bytes then draft_as draft Deletes draft.numbers else draft_as draft Adds
    (with_given draft.numbers (signed_word word.bytes))
draft_with_in Adds draft word = draft_as draft Adds (with_given draft.numbers (signed_word word.bytes))
draft_with_in Deletes draft word = draft_as draft Deletes (with_given draft.numbers (plain_word word.bytes))

abbrev pub draft_with : DraftLine → Word → DraftLine
draft_with draft word = draft_with_in draft.kind draft word

-- one more token behind the first, which spells this number
abbrev pub unsigned : ℤ → Option ℤ
unsigned (pos n) = Some (pos n)
unsigned (negsuc n) = None

abbrev pub draft_with_number_in : Kind → DraftLine → ℤ → DraftLine
draft_with_number_in Empty draft number = draft
draft_with_number_in Begun draft number = draft_as draft Adds (with_given draft.numbers (Some number))
draft_with_number_in Adds draft number = draft_as draft Adds (with_given draft.numbers (Some number))
draft_with_number_in Deletes draft number = draft_as draft Deletes (with_given draft.numbers (unsigned number))

abbrev pub draft_with_number : DraftLine → ℤ → DraftLine
draft_with_number draft number = draft_with_number_in draft.kind draft number

-- all of its tokens so far are numbers
abbrev pub has_numbers : DraftLine → Bool
has_numbers draft = is_some draft.numbers

-- the step that the line spells, if it spells one
abbrev pub judged_in : Kind → ℕ → List ℤ → Option Step
judged_in Empty id numbers = None
judged_in Begun id numbers = None
judged_in Adds id numbers = addition_by id numbers
judged_in Deletes id numbers = deletion_from id numbers

abbrev pub judged : DraftLine → Option Step
judged draft = option_and_then (λ id. option_and_then (judged_in draft.kind id) draft.numbers) draft.id

abbrev pub is_open_kind : Kind → Bool
is_open_kind Empty = false
is_open_kind Begun = true
is_open_kind Adds = true
is_open_kind Deletes = true

abbrev pub is_open : DraftLine → Bool
is_open draft = is_open_kind draft.kind

-- a line of this kind is an addition, or becomes one with a number
abbrev pub is_adding : Kind → Bool
is_adding Empty = false
is_adding Begun = true
is_adding Adds = true
is_adding Deletes = false

-- a token behind the first was taken, and these are the numbers of the line now
abbrev pub keeps_number : Option (List ℤ) → Bool
keeps_number None = false
keeps_number (Some []) = false
keeps_number (Some (number ∷ numbers)) = true

-- the form of the lines of an LRAT proof
abbrev pub lrat_form : Form DraftLine Step
lrat_form = record {
  step_of = step_of;
  no_draft = no_draft;
  is_begun = is_open;
  line = λ draft. draft.line;
  of_word = draft_of_word;
  of_number = draft_of_number;
  with_word = draft_with;
  with_number = draft_with_number;
  has_numbers = has_numbers;
  keeps_number = λ draft. keeps_number draft.numbers;
  judged = judged;
}
