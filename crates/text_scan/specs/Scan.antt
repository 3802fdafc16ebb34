-- A scanner as its callers see it, and what a call gives.
use Rattle.std.specs.Prelude.{◌≡◌, ℕ, ◌+◌, ◌-◌, ◌<◌, Bool, true, false, ℤ, nat_abs, ◌≤◌, List, [], ◌∷◌, ◌++◌, drop, if◌then◌else◌, Option}
use Rattle.std.specs.Prelude.{None, Some, Result, Ok, Err, ⊤}
use Rattle.cnf_base.specs.Number.{signed_number}
use Rattle.cnf_base.specs.Text.{Word}
use Rattle.text_scan.specs.declared.lexer.LexerMode.TheVariants.{LineStart}
use Rattle.text_scan.specs.declared.scanner.ScanStatus.{ScanStatus}
use Rattle.text_scan.specs.declared.scanner.ScanStatus.TheVariants.{Reading, Ended, Overlong, Faulted}
use Rattle.text_scan.specs.declared.scanner.ScanError.{ScanError}
use Rattle.text_scan.specs.declared.scanner.ScanError.TheVariants.{ReadFault, TooLong}
use Rattle.text_scan.specs.Capped.{cap}
use Rattle.text_scan.specs.Items.{Items, the_end, too_long, next_word}
use Rattle.text_scan.specs.Lexer.{Lex, items_from, front_from}

-- What is known of the text up to the bytes that are taken and not yet looked at, how many of the bytes from there
-- on are under the limit, whether it still reads, and the line that it answers.
pub record Scan : Type 0 where
  pub lex : Lex
  pub room : ℕ
  pub unread : List ℕ
  pub status : ScanStatus
  pub line : ℕ

-- at most so many bytes are taken and not yet looked at
abbrev pub block_size : ℕ
block_size = 16384

-- the items that are still to be given, where these bytes follow those taken
abbrev pub ahead_in : ScanStatus → Scan → List ℕ → Items
ahead_in Reading scan more = items_from scan.lex scan.room (scan.unread ++ more)
ahead_in Ended scan more = the_end scan.line
ahead_in Overlong scan more = too_long scan.line
ahead_in Faulted scan more = items_from scan.lex scan.room (scan.unread ++ more)

abbrev pub ahead : Scan → List ℕ → Items
ahead scan more = ahead_in scan.status scan more

-- The items that the bytes taken give where these follow them, if all of them are the front of a longer text. A read
-- may then follow.
abbrev pub so_far : Scan → List ℕ → Items
so_far scan more = front_from scan.lex (scan.unread ++ more)

abbrev pub is_reading : ScanStatus → Bool
is_reading Reading = true
is_reading Ended = false
is_reading Overlong = false
is_reading Faulted = false

abbrev pub is_faulted : ScanStatus → Bool
is_faulted Reading = false
is_faulted Ended = false
is_faulted Overlong = false
is_faulted Faulted = true

abbrev pub is_overlong : ScanStatus → Bool
is_overlong Reading = false
is_overlong Ended = false
is_overlong Overlong = true
is_overlong Faulted = false

-- how many more tokens can be given at most, so that a loop over them ends whatever the source does
abbrev pub fuel_in : ScanStatus → ℕ → ℕ
fuel_in Reading room = room + 1
fuel_in Ended room = 0
fuel_in Overlong room = 0
fuel_in Faulted room = 0

abbrev pub fuel : Scan → ℕ
fuel scan = fuel_in scan.status scan.room

-- the answer of a call that puts this token into a place of the caller's where it answers yes, and no at the end
abbrev pub given : Word → Result Bool ScanError → Result (Option Word) ScanError
given word (Ok true) = Ok (Some word)
given word (Ok false) = Ok None
given word (Err error) = Err error

-- An answer, and the line that the scanner then answers, are the first of the items ahead; those after it are ahead
-- now. A fault gives none.
abbrev pub Gives : Result (Option Word) ScanError → ℕ → Items → Items → Type 0
Gives (Ok (Some word)) line before after = before ≡ next_word word after
Gives (Ok None) line before after = (before ≡ the_end line) × (after ≡ the_end line)
Gives (Err TooLong) line before after = (before ≡ too_long line) × (after ≡ too_long line)
Gives (Err ReadFault) line before after = before ≡ after

-- What the bytes that a call took give as the front of a longer text: the token is the first of their items, unless the
-- end of the text ended it. Where a read failed, they gave none yet.
abbrev pub GivesSoFar : Result (Option Word) ScanError → Scan → Scan → List ℕ → Type 0
GivesSoFar (Ok (Some word)) old new bytes = is_reading new.status ≡ true → (more : List ℕ) → so_far old (bytes ++ more)
    ≡ next_word word (so_far new more)
GivesSoFar (Ok None) old new bytes = ⊤
GivesSoFar (Err TooLong) old new bytes = ⊤
GivesSoFar (Err ReadFault) old new bytes = so_far old bytes ≡ too_long new.lex.line

-- A token was given: its line is answered, fewer can come, no read failed, and the text isn't too long so far.
pub record GaveWord (word : Word) (old new : Scan) : Type 0 where
  pub line : new.line ≡ word.line
  pub less : fuel new < fuel old
  pub sound : is_faulted new.status ≡ false
  pub fits : is_overlong new.status ≡ false

-- What a call makes of the scanner, whatever the source does: after the end or an error it has stopped.
abbrev pub Moves : Result (Option Word) ScanError → Scan → Scan → Type 0
Moves (Ok (Some word)) old new = GaveWord word old new
Moves (Ok None) old new = new.status ≡ Ended
Moves (Err TooLong) old new = new.status ≡ Overlong
Moves (Err ReadFault) old new = (new.status ≡ Faulted) × (new.line ≡ old.line)

-- the answer of a scanner that has stopped
abbrev pub last_answer : ScanStatus → Result (Option Word) ScanError
last_answer Reading = Ok None
last_answer Ended = Ok None
last_answer Overlong = Err TooLong
last_answer Faulted = Err ReadFault

-- A token that spells this number was given, the first of the items ahead, which stands on this line; nothing was read.
pub record TookNumber (number : ℤ) (at : ℕ) (old new : Scan) : Type 0 where
  pub word : Word
  pub number_is : signed_number word.bytes ≡ Some number
  pub small : nat_abs number ≤ cap
  pub line : word.line ≡ at
  pub reading : old.status ≡ Reading
  pub status : new.status ≡ Reading
  pub gives : (more : List ℕ) → ahead old more ≡ next_word word (ahead new more)
  pub so_far : (more : List ℕ) → so_far old more ≡ next_word word (so_far new more)
  pub gave : GaveWord word old new

-- what is known behind tokens of a line, if there are any, of so many bytes with the blanks behind them, the last of which may be its end
abbrev pub passed : Scan → Bool → ℕ → Bool → Scan
passed scan any len ended = record {
  lex = if ended then record { comment = scan.lex.comment; mode = LineStart; line = scan.lex.line + 1; word = [] } else scan.lex;
  room = scan.room - len;
  unread = drop len scan.unread;
  status = scan.status;
  line = if any then scan.lex.line else scan.line;
}

-- Tokens on this line that spell these numbers were given in turn.
abbrev pub TookNumbers : List ℤ → ℕ → Scan → Scan → Type 0
TookNumbers [] at old new = new ≡ old
TookNumbers (number ∷ numbers) at old new = (middle : Scan) × TookNumber number at old middle × TookNumbers numbers at middle new
