-- How a scanner stands in its block of bytes.
use Rattle.std.specs.Prelude.{◌≡◌, ℕ, ◌+◌, ◌^◌, ◌<◌, ◌≤◌, min, Bool, true, false, ℤ, nat_abs, List, [], ◌∷◌, length, take, drop}
use Rattle.std.specs.Prelude.{slice_index, Some}
use Rattle.std.specs.List.{list_all, list_any}
use Rattle.cnf_base.specs.Number.{is_digit, value_after, signed_number}
use Rattle.cnf_base.specs.Text.{Word, is_blank, is_line_end}
use Rattle.text_scan.specs.Capped.{cap}
use Rattle.text_scan.specs.Lexer.{begins_word}
use Rattle.text_scan.specs.Scan.{Scan}

-- `at` of the `end` bytes that were read are looked at, and none from `stop` on may be, since `room` bytes of the
-- block are under the limit; the line number can't pass its type's end.
pub record IsBlock (block : List ℕ) (at stop end room line : ℕ) : Type 0 where
  pub size : length block ≡ 16384
  pub at_most_stop : at ≤ stop
  pub stop_is : stop ≡ min end room
  pub in_block : end ≤ 16384
  pub line_fits : line + room < 2 ^ 64 + at

-- The next byte begins this token, which has so many bytes, and the blank behind it is read and under the limit too.
pub record IsWordAhead (scan : Scan) (word : Word) (len : ℕ) : Type 0 where
  pub begins : begins_word scan.lex (slice_index scan.unread 0) ≡ true
  pub letters : list_any is_blank (take len scan.unread) ≡ false
  pub within : len < length scan.unread
  pub blank : is_blank (slice_index scan.unread len) ≡ true
  pub under : len < scan.room
  pub line_fits : scan.lex.line + 1 < 2 ^ 64
  pub word_is : word ≡ record { bytes = take 65 (take len scan.unread); line = scan.lex.line }

-- So many digits stand at the front of these bytes, with this value, and a blank behind them.
pub record IsNumeralAtFront (bytes : List ℕ) (value len : ℕ) : Type 0 where
  pub some : 0 < len
  pub short : len ≤ 63
  pub within : len < length bytes
  pub blank : is_blank (slice_index bytes len) ≡ true
  pub digits : list_all is_digit (take len bytes) ≡ true
  pub value_is : value ≡ value_after 0 (take len bytes)
  pub small : value < cap

-- A token of so many bytes stands at the front of these, which spells this number, and a blank behind it.
pub record IsNumberAtFront (bytes : List ℕ) (number : ℤ) (len : ℕ) : Type 0 where
  pub letters : list_any is_blank (take len bytes) ≡ false
  pub short : len ≤ 64
  pub within : len < length bytes
  pub blank : is_blank (slice_index bytes len) ≡ true
  pub number_is : signed_number (take len bytes) ≡ Some number
  pub small : nat_abs number ≤ cap

-- Tokens that spell these numbers stand at the front of these bytes, a blank behind each, in so many bytes with the blanks, and no line end
-- is among the blanks but the last; whether a line ended before them, and whether one has ended then.
abbrev pub AreNumbersAtFront : Bool → List ℤ → List ℕ → ℕ → Bool → Type 0
AreNumbersAtFront before [] bytes len after = (len ≡ 0) × (after ≡ before)
AreNumbersAtFront before (number ∷ numbers) bytes len after =
    (before ≡ false) × (size : ℕ) × IsNumberAtFront bytes number size × (rest : ℕ) × (len ≡ size + 1 + rest)
    × AreNumbersAtFront (is_line_end (slice_index bytes size)) numbers (drop (size + 1) bytes) rest after

-- the next byte begins a token of so many bytes, which spells this number
pub record IsNumberAhead (scan : Scan) (number : ℤ) (len : ℕ) : Type 0 where
  pub ahead : IsWordAhead scan (record { bytes = take 65 (take len scan.unread); line = scan.lex.line }) len
  pub number_is : signed_number (take 65 (take len scan.unread)) ≡ Some number
  pub small : nat_abs number ≤ cap
