-- The items of a text, byte by byte: what is known of the line and the token in which the next byte stands.
use Rattle.std.specs.Prelude.{ℕ, ◌+◌, ◌-◌, Bool, true, false, not, ◌&&◌, List, [], ◌∷◌, ◌++◌, length, nat_lt, ◌==◌, if◌then◌else◌}
use Rattle.cnf_base.specs.Text.{is_blank, is_line_end, has_bytes}
use Rattle.text_scan.specs.declared.lexer.LexerMode.{LexerMode}
use Rattle.text_scan.specs.declared.lexer.LexerMode.TheVariants.{LineStart, Comment, Words}
use Rattle.text_scan.specs.Items.{Items, the_end, too_long, next_word}

-- The comment byte, what stood on this line, its number, and what has come of a token, at most 65 bytes; no byte
-- where none is begun.
pub record Lex : Type 0 where
  pub comment : ℕ
  pub mode : LexerMode
  pub line : ℕ
  pub word : List ℕ

-- before the first byte of a text
abbrev pub lex_start : ℕ → Lex
lex_start comment = record { comment = comment; mode = LineStart; line = 1; word = [] }

-- the line once this byte, which is no blank, has come: the first one makes it a comment or not
abbrev pub mode_with : LexerMode → ℕ → ℕ → LexerMode
mode_with LineStart comment byte = if byte == comment then Comment else Words
mode_with Comment comment byte = Comment
mode_with Words comment byte = Words

-- the token begun, with this byte
abbrev pub word_with : LexerMode → List ℕ → ℕ → List ℕ
word_with LineStart word byte = word
word_with Comment word byte = word
word_with Words word byte = if nat_lt (length word) 65 then word ++ byte ∷ [] else word

abbrev pub after_letter : Lex → ℕ → Lex
after_letter lex byte = record {
  comment = lex.comment;
  mode = mode_with lex.mode lex.comment byte;
  line = lex.line;
  word = word_with (mode_with lex.mode lex.comment byte) lex.word byte;
}

-- what is known after one more byte
abbrev pub after : Lex → ℕ → Lex
after lex byte =
    if is_line_end byte then record { comment = lex.comment; mode = LineStart; line = lex.line + 1; word = [] }
    else if is_blank byte then record { comment = lex.comment; mode = lex.mode; line = lex.line; word = [] }
    else after_letter lex byte

-- the token begun, if there is one, and then those items
abbrev pub word_then : List ℕ → ℕ → Items → Items
word_then [] line items = items
word_then (byte ∷ bytes) line items = next_word (record { bytes = byte ∷ bytes; line = line }) items

-- this byte ends a token
abbrev pub ends_word : Lex → ℕ → Bool
ends_word lex byte = is_blank byte && has_bytes lex.word

-- this byte, which is no blank, begins one
abbrev pub is_words : LexerMode → Bool
is_words LineStart = false
is_words Comment = false
is_words Words = true

abbrev pub begins_word : Lex → ℕ → Bool
begins_word lex byte = not (has_bytes lex.word) && not (is_blank byte) && is_words (mode_with lex.mode lex.comment byte)

abbrev pub given_at : Lex → ℕ → Items → Items
given_at lex byte items = if is_blank byte then word_then lex.word lex.line items else items

-- the items of bytes that go on from here, of which `room` are under the limit
abbrev pub items_from : Lex → ℕ → List ℕ → Items
items_from lex room [] = word_then lex.word lex.line (the_end lex.line)
items_from lex room (byte ∷ bytes) =
    if room == 0 then too_long lex.line else given_at lex byte (items_from (after lex byte) (room - 1) bytes)

-- the same of the front of a longer text
abbrev pub front_from : Lex → List ℕ → Items
front_from lex [] = too_long lex.line
front_from lex (byte ∷ bytes) = given_at lex byte (front_from (after lex byte) bytes)
