-- What a reader of an order keeps, and which answers a text allows.
use Rattle.std.specs.Prelude.{◌≡◌, ℕ, ◌<◌, ◌≤◌, ◌==◌, Bool, true, false, List, [], Option, None, Some, Result, Ok, Err, ⊤, IsTrue}
use Rattle.std.specs.Prelude.{slice_index_or}
use Rattle.std.specs.List.{IsDistinct}
use Rattle.cnf_base.specs.Number.{plain_number}
use Rattle.cnf_base.specs.Text.{Word}
use Rattle.text_scan.specs.Items.{Items, next_word}
use Rattle.text_scan.specs.Near.{is_near}
use Rattle.text_scan.specs.declared.scanner.ScanError.{ScanError}
use Rattle.text_scan.specs.declared.scanner.ScanError.TheVariants.{ReadFault as ScanFault, TooLong as ScanTooLong}
use Rattle.schedule_plan.specs.declared.order_error.OrderError.{OrderError}
use Rattle.schedule_plan.specs.declared.order_error.OrderError.TheVariants.{Refused, ReadFault, TooLong, OutOfMemory}
use Rattle.schedule_plan.specs.declared.order_error.OrderKind.{OrderKind}
use Rattle.schedule_plan.specs.declared.order_error.OrderKind.TheVariants.{BadNumber, Range, Repeated, Missing}
use Rattle.schedule_plan.specs.OrderText.{OrderText, order, refusal, overlong, stands_in, offence_of, with_read}

-- The answer is what the text is. A failed read and want of memory say nothing of it.
abbrev pub Answers : Result (List ℕ) OrderError → OrderText → Type 0
Answers (Ok variables) text = text ≡ order variables
Answers (Err (Refused kind line)) text = text ≡ refusal kind line
Answers (Err TooLong) text = text ≡ overlong
Answers (Err ReadFault) text = ⊤
Answers (Err OutOfMemory) text = ⊤

-- the answer that says what a text is
abbrev pub answer_of : OrderText → Result (List ℕ) OrderError
answer_of (order variables) = Ok variables
answer_of (refusal kind line) = Err (Refused kind line)
answer_of overlong = Err TooLong

-- the number of a kind
abbrev pub number_of : OrderKind → ℕ
number_of BadNumber = 1
number_of Range = 2
number_of Repeated = 3
number_of Missing = 4

-- the answer to a scanner's error
abbrev pub error_of : ScanError → OrderError
error_of ScanFault = ReadFault
error_of ScanTooLong = TooLong

-- the numbers read so far, of an order of so many variables
pub record Front : Type 0 where
  pub vars : ℕ
  pub numbers : List ℕ

-- numbers that are variables, each once
pub record AreVariables (vars : ℕ) (numbers : List ℕ) : Type 0 where
  pub distinct : IsDistinct ◌==◌ numbers
  pub within : (number : ℕ) → stands_in number numbers ≡ true → (0 < number) × (number ≤ vars)

-- such numbers, and the flags of those that stand among them
pub record IsFront (vars : ℕ) (numbers : List ℕ) (seen : List Bool) : Type 0 where
  pub variables : AreVariables vars numbers
  pub flags : (number : ℕ) → slice_index_or seen number false ≡ stands_in number numbers

-- A token was judged: it offends, or its number is the last one now. Memory may be refused instead.
abbrev pub Takes : {T : Type 0} → Result T OrderError → Option OrderKind → ℕ → List ℕ → List ℕ → Type 0
Takes (Ok _) offence line with new = (offence ≡ None) × (new ≡ with)
Takes (Err (Refused kind at)) offence line with new = (offence ≡ Some kind) × (at ≡ line)
Takes (Err ReadFault) offence line with new = ⊥
Takes (Err TooLong) offence line with new = ⊥
Takes (Err OutOfMemory) offence line with new = ⊤

-- Of all these items the first tokens don't offend, each behind the numbers of those before it; then come those items,
-- and those are the numbers.
pub data Passes (vars : ℕ) (all : Items) : Items → List ℕ → Type 0 where
  pass_none : Passes vars all all []
  pass_one : {word : Word} {items : Items} {before : List ℕ} → Passes vars all (next_word word items) before
      → offence_of (plain_number word.bytes) vars before ≡ None → Passes vars all items (with_read (plain_number word.bytes) before)

-- Memory may be wanted for a text of these items, where so many bytes follow those taken: a number of it offends nothing, nor does any
-- token before it, and no more tokens come behind it than a block of the bytes taken can spell, and those that follow.
pub record WantsMemory (vars more : ℕ) (all : Items) : Type 0 where
  pub word : Word
  pub after : Items
  pub before : List ℕ
  pub passed : Passes vars all (next_word word after) before
  pub unoffending : offence_of (plain_number word.bytes) vars before ≡ None
  pub near : IsTrue (is_near more after)
