-- The body of a text as it is read: what is announced, and the draft so far.
use Rattle.std.specs.Prelude.{◌≡◌, ℕ, ◌≤◌, ◌<◌, true, false, [], length, Option, None, Some, Result, Ok, Err, codes, ⊤, IsTrue}
use Rattle.cnf_base.specs.Formula.{Formula, Draft}
use Rattle.cnf_base.specs.Number.{signed_number}
use Rattle.cnf_base.specs.Text.{Word}
use Rattle.text_scan.specs.Items.{Items, the_end, too_long, next_word}
use Rattle.text_scan.specs.Near.{is_near}
use Rattle.dimacs_reader.specs.declared.error.CnfError.{CnfError}
use Rattle.dimacs_reader.specs.declared.error.CnfError.TheVariants.{Refused, ReadFault, TooLong, OutOfMemory}
use Rattle.dimacs_reader.specs.declared.error.CnfKind.{CnfKind}
use Rattle.dimacs_reader.specs.declared.mode.Mode.{Mode}
use Rattle.dimacs_reader.specs.declared.mode.Mode.TheVariants.{Lax}
use Rattle.dimacs_reader.specs.Cnf.{CnfText, formula, refusal, overlong, max_vars, max_clauses, max_literals, literals_of, is_word}
use Rattle.dimacs_reader.specs.Cnf.{with_read, offence_of}

-- the mode, how many clauses are announced, and what was read of them
pub record BodyState : Type 0 where
  pub mode : Mode
  pub count : ℕ
  pub draft : Draft

-- before the first token of the body
abbrev pub no_clauses : ℕ → Draft
no_clauses vars = record { vars = vars; clauses = []; begun = [] }

-- a token that neither ends the clauses nor offends, after this draft
pub record IsGood (mode : Mode) (word : Word) (count : ℕ) (draft : Draft) : Type 0 where
  pub goes_on : is_word (codes "%") word.bytes ≡ false
  pub unoffending : offence_of mode (signed_number word.bytes) count draft ≡ None

-- Of all these items the first tokens are good, each after the draft of those before it; then come those items, and
-- that is the draft.
pub data Passes (mode : Mode) (count : ℕ) (all : Items) (start : Draft) : Items → Draft → Type 0 where
  pass_none : Passes mode count all start all start
  pass_one : {word : Word} {items : Items} {draft : Draft} → Passes mode count all start (next_word word items) draft
      → IsGood mode word count draft
      → Passes mode count all start items (with_read (signed_number word.bytes) draft)

-- The clauses end where these items begin: at the end of the text, or at `%`, behind which those items come.
abbrev pub EndsClauses : Items → Items → Type 0
EndsClauses (the_end line) after = after ≡ the_end line
EndsClauses (too_long line) after = ⊥
EndsClauses (next_word word items) after = (is_word (codes "%") word.bytes ≡ true) × (items ≡ after)

-- Memory was wanted for a number, where so many bytes follow those taken: all tokens before those items are good, and the last of them is
-- that number. Behind it come no more tokens than a block of the bytes taken can spell, and those bytes.
pub record WantsForNumber (mode : Mode) (count more : ℕ) (all : Items) (start : Draft) (after : Items) : Type 0 where
  pub word : Word
  pub draft : Draft
  pub passed : Passes mode count all start (next_word word after) draft
  pub good : IsGood mode word count draft
  pub near : IsTrue (is_near more after)

-- Memory was wanted in the mode Lax for a clause without its zero: all tokens are good, they leave a clause begun, and
-- there the clauses end, as near.
pub record WantsForEnd (mode : Mode) (count more : ℕ) (all : Items) (start : Draft) (after : Items) : Type 0 where
  pub lax : mode ≡ Lax
  pub rest : Items
  pub draft : Draft
  pub passed : Passes mode count all start rest draft
  pub begun : 0 < length draft.begun
  pub ends : EndsClauses rest after
  pub near : IsTrue (is_near more after)

-- Memory was wanted while those items were ahead.
pub data Wants (mode : Mode) (count more : ℕ) (all : Items) (start : Draft) (after : Items) : Type 0 where
  for_number : WantsForNumber mode count more all start after → Wants mode count more all start after
  for_end : WantsForEnd mode count more all start after → Wants mode count more all start after

-- the counters are those of the draft, and within the limits
pub record IsBody (vars count ended begun literals : ℕ) (draft : Draft) : Type 0 where
  pub vars_are : vars ≡ draft.vars
  pub few_vars : vars ≤ max_vars
  pub few_clauses : count ≤ max_clauses
  pub room : 0 < begun → ended < max_clauses
  pub ended_are : ended ≡ length draft.clauses
  pub begun_are : begun ≡ length draft.begun
  pub literals_are : literals ≡ literals_of draft
  pub few_literals : literals ≤ max_literals

-- A token was judged: it offends, or the draft has its number now. Memory may be refused instead.
abbrev pub Takes : {T : Type 0} → Result T CnfError → Option CnfKind → ℕ → Draft → Draft → Type 0
Takes (Ok _) offence line with new = (offence ≡ None) × (new ≡ with)
Takes (Err (Refused kind at)) offence line with new = (offence ≡ Some kind) × (at ≡ line)
Takes (Err ReadFault) offence line with new = ⊥
Takes (Err TooLong) offence line with new = ⊥
Takes (Err OutOfMemory) offence line with new = ⊤

-- the answer that says what a text is
abbrev pub answer_of : CnfText → Result Formula CnfError
answer_of (formula cnf) = Ok cnf
answer_of (refusal kind line) = Err (Refused kind line)
answer_of overlong = Err TooLong
