-- What a reader of cubes keeps, and which answers a text allows.
use Rattle.std.specs.Prelude.{◌≡◌, ℕ, ◌+◌, ◌*◌, ◌<◌, ◌≤◌, ◌==◌, Bool, ℤ, nat_abs, List, length, Option, None, Some, Result, Ok, Err}
use Rattle.std.specs.Prelude.{⊤, IsTrue, slice_index_or, if◌then◌else◌}
use Rattle.std.specs.Int.{is_negative}
use Rattle.std.specs.List.{list_all, list_any}
use Rattle.std.specs.Ordering.{int_eq}
use Rattle.cnf_base.specs.Cube.{is_consistent}
use Rattle.cnf_base.specs.Formula.{Draft}
use Rattle.cnf_base.specs.Limits.{max_vars}
use Rattle.cnf_base.specs.Number.{signed_number}
use Rattle.cnf_base.specs.Text.{Word}
use Rattle.text_scan.specs.Items.{Items, next_word}
use Rattle.text_scan.specs.Near.{is_near}
use Rattle.text_scan.specs.declared.scanner.ScanError.{ScanError}
use Rattle.text_scan.specs.declared.scanner.ScanError.TheVariants.{ReadFault as ScanFault, TooLong as ScanTooLong}
use Rattle.dimacs_reader.specs.Cnf.{literals_of, max_literals, with_read}
use Rattle.cube_text.specs.declared.error.CubeError.{CubeError}
use Rattle.cube_text.specs.declared.error.CubeError.TheVariants.{Refused, ReadFault, TooLong, OutOfMemory}
use Rattle.cube_text.specs.declared.error.CubeKind.{CubeKind}
use Rattle.cube_text.specs.declared.error.CubeKind.TheVariants.{BadToken, LiteralRange, BothSigns, NoEndingZero, Limit}
use Rattle.cube_text.specs.CubeText.{CubeText, cubes, refusal, overlong, max_cubes, no_cubes, offence_of}

-- The answer is what the text is. A failed read and want of memory say nothing of it.
abbrev pub Answers : Result (List (List ℤ)) CubeError → CubeText → Type 0
Answers (Ok all) text = text ≡ cubes all
Answers (Err (Refused kind line)) text = text ≡ refusal kind line
Answers (Err TooLong) text = text ≡ overlong
Answers (Err ReadFault) text = ⊤
Answers (Err OutOfMemory) text = ⊤

-- the answer that says what a text is
abbrev pub answer_of : CubeText → Result (List (List ℤ)) CubeError
answer_of (cubes all) = Ok all
answer_of (refusal kind line) = Err (Refused kind line)
answer_of overlong = Err TooLong

-- the number of a kind
abbrev pub number_of : CubeKind → ℕ
number_of BadToken = 1
number_of LiteralRange = 2
number_of BothSigns = 3
number_of NoEndingZero = 4
number_of Limit = 5

-- the answer to a scanner's error
abbrev pub error_of : ScanError → CubeError
error_of ScanFault = ReadFault
error_of ScanTooLong = TooLong

-- What is kept under a variable once a literal of it with this sign was read, behind so many ended cubes: another number for each cube
-- and sign.
abbrev pub stamp : ℕ → Bool → ℕ
stamp ended negative = if negative then 2 * ended + 3 else 2 * ended + 2

-- The stamps tell which literals stand in the cube that was begun, and are of no later cube.
pub record AreStamps (ended : ℕ) (begun : List ℤ) (stamps : List ℕ) : Type 0 where
  pub marks : (literal : ℤ) → 0 < nat_abs literal
      → (slice_index_or stamps (nat_abs literal) 0 == stamp ended (is_negative literal)) ≡ list_any (int_eq literal) begun
  pub before : (variable : ℕ) → slice_index_or stamps variable 0 < 2 * ended + 4

-- the counters are those of the draft, and within the limits
pub record IsFront (vars ended begun literals : ℕ) (draft : Draft) (stamps : List ℕ) : Type 0 where
  pub vars_are : vars ≡ draft.vars
  pub few_vars : vars ≤ max_vars
  pub ended_are : ended ≡ length draft.clauses
  pub few_ended : ended ≤ max_cubes
  pub begun_are : begun ≡ length draft.begun
  pub literals_are : literals ≡ literals_of draft
  pub few_literals : literals ≤ max_literals
  pub consistent : IsTrue (list_all is_consistent draft.clauses)
  pub begun_consistent : IsTrue (is_consistent draft.begun)
  pub stamped : AreStamps ended draft.begun stamps

-- A token was judged: it offends, or the draft has its number now. Memory may be refused instead.
abbrev pub Takes : {T : Type 0} → Result T CubeError → Option CubeKind → ℕ → Draft → Draft → Type 0
Takes (Ok _) offence line with new = (offence ≡ None) × (new ≡ with)
Takes (Err (Refused kind at)) offence line with new = (offence ≡ Some kind) × (at ≡ line)
Takes (Err ReadFault) offence line with new = ⊥
Takes (Err TooLong) offence line with new = ⊥
Takes (Err OutOfMemory) offence line with new = ⊤

-- Of all these items the first tokens don't offend, each behind the draft of those before it; then come those items, and that is the draft.
pub data Passes (vars : ℕ) (all : Items) : Items → Draft → Type 0 where
  pass_none : Passes vars all all (no_cubes vars)
  pass_one : {word : Word} {items : Items} {draft : Draft} → Passes vars all (next_word word items) draft
      → offence_of (signed_number word.bytes) draft ≡ None → Passes vars all items (with_read (signed_number word.bytes) draft)

-- Memory may be wanted for a text of these items, where so many bytes follow those taken: a number of it offends nothing, nor does any
-- token before it, and no more tokens come behind it than a block of the bytes taken can spell, and those that follow.
pub record WantsMemory (vars more : ℕ) (all : Items) : Type 0 where
  pub word : Word
  pub after : Items
  pub draft : Draft
  pub passed : Passes vars all (next_word word after) draft
  pub unoffending : offence_of (signed_number word.bytes) draft ≡ None
  pub near : IsTrue (is_near more after)
