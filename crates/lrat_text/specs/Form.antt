-- A form of the lines of a proof, as LRAT's or DRAT's: which step the tokens of a line spell, and the draft of a line, which
-- says so token by token, so that a reader keeps no text.
use Rattle.std.specs.Prelude.{◌≡◌, ℕ, ◌≤◌, Bool, true, false, ℤ, nat_abs, List, [], ◌∷◌, ◌++◌, map, take, length, Option, Some, is_some}
use Rattle.cnf_base.specs.Number.{signed_number}
use Rattle.cnf_base.specs.Text.{Word}
use Rattle.text_scan.specs.Capped.{cap}
use Rattle.text_scan.specs.Scan.{Scan, TookNumbers}

pub record Form (Draft Step : Type 0) : Type 0 where
  -- the step that the tokens of a line spell, if they spell one
  pub step_of : List (List ℕ) → Option Step
  -- where no line is begun
  pub no_draft : Draft
  pub is_begun : Draft → Bool
  pub line : Draft → ℕ
  -- the line that begins with this token, and the one on this line whose first token spells this number
  pub of_word : Word → Draft
  pub of_number : ℕ → ℤ → Draft
  -- one more token, and one that spells this number
  pub with_word : Draft → Word → Draft
  pub with_number : Draft → ℤ → Draft
  -- all of its tokens so far are numbers, but for the word of a deletion
  pub has_numbers : Draft → Bool
  -- memory is wanted for its last token, which is a number
  pub keeps_number : Draft → Bool
  -- the step that it spells if it is ended here
  pub judged : Draft → Option Step

-- the line with tokens in turn that spell these numbers
abbrev pub with_numbers : {Draft Step : Type 0} → Form Draft Step → Draft → List ℤ → Draft
with_numbers form draft [] = draft
with_numbers form draft (number ∷ numbers) = with_numbers form (form.with_number draft number) numbers

-- So many numbers of the tokens that come next on this line were taken from the scanner, and stand behind those that there were.
pub record TookMore (line count : ℕ) (before after : List ℤ) (from to : Scan) : Type 0 where
  pub numbers : List ℤ
  pub took : TookNumbers numbers line from to
  pub behind : after ≡ before ++ numbers
  pub size : length numbers ≡ count

-- Tokens that come next on the line were taken from the scanner, as far as they spell numbers and as many as suit.
pub record TakesNumbers {Draft Step : Type 0} (form : Form Draft Step) (before after : Draft) (from to : Scan) : Type 0 where
  pub numbers : List ℤ
  pub took : TookNumbers numbers (form.line before) from to
  pub behind : after ≡ with_numbers form before numbers

-- What a draft says of a line is what its tokens say, as far as they are kept, and a number says what its token says.
pub record IsForm {Draft Step : Type 0} (form : Form Draft Step) : Type 0 where
  -- the draft of these tokens on a line
  pub draft_of : ℕ → List ℕ → List (List ℕ) → Draft
  pub first_word : (line : ℕ) (first : List ℕ) → draft_of line first [] ≡ form.of_word (record { bytes = first; line = line })
  pub one_more : (line : ℕ) (first : List ℕ) (words : List (List ℕ)) (word : Word)
      → draft_of line first (words ++ word.bytes ∷ []) ≡ form.with_word (draft_of line first words) word
  pub begun : (line : ℕ) (first : List ℕ) (words : List (List ℕ)) → form.is_begun (draft_of line first words) ≡ true
  pub on_line : (line : ℕ) (first : List ℕ) (words : List (List ℕ)) → form.line (draft_of line first words) ≡ line
  pub spelled : (line : ℕ) (first : List ℕ) (words : List (List ℕ)) → form.judged (draft_of line first words)
      ≡ form.step_of (first ∷ words)
  pub kept : (words : List (List ℕ)) → form.step_of (map (take 65) words) ≡ form.step_of words
  pub numbers : (draft : Draft) → is_some (form.judged draft) ≡ true → form.has_numbers draft ≡ true
  pub none_begun : form.is_begun form.no_draft ≡ false
  pub first_number : (word : Word) (number : ℤ) → signed_number word.bytes ≡ Some number → nat_abs number ≤ cap
      → form.of_word word ≡ form.of_number word.line number
  pub later_number : (draft : Draft) (word : Word) (number : ℤ) → signed_number word.bytes ≡ Some number → nat_abs number ≤ cap
      → form.with_word draft word ≡ form.with_number draft number
  pub stays_begun : (draft : Draft) (number : ℤ) → form.is_begun draft ≡ true → form.is_begun (form.with_number draft number) ≡ true
  pub stays_on_line : (draft : Draft) (number : ℤ) → form.line (form.with_number draft number) ≡ form.line draft
