-- Texts in lines and tokens. Blanks are space, tab, CR and LF; lines are counted from 1 and end by LF; a line whose
-- first byte that isn't a blank is the comment byte is skipped whole; a token is a longest run of bytes that
-- aren't blanks. (DIMACS, 'Satisfiability: Suggested Format', 1993, and the LRAT paper's textual format.)
use Rattle.std.specs.Prelude.{ℕ, ◌+◌, Bool, true, false, ◌||◌, List, [], ◌∷◌, ◌++◌, map, ◌==◌, if◌then◌else◌}
use Rattle.std.specs.List.{filter, flat_map, count_by}

abbrev pub is_line_end : ℕ → Bool
is_line_end byte = byte == 10

abbrev pub is_blank : ℕ → Bool
is_blank byte = byte == 32 || byte == 9 || byte == 13 || byte == 10

-- a byte before the first piece
abbrev pub begin_with : ℕ → List (List ℕ) → List (List ℕ)
begin_with byte [] = (byte ∷ []) ∷ []
begin_with byte (piece ∷ more) = (byte ∷ piece) ∷ more

-- the pieces of a text between the bytes that pass the test, also the empty ones
abbrev pub pieces : (ℕ → Bool) → List ℕ → List (List ℕ)
pieces test [] = [] ∷ []
pieces test (byte ∷ bytes) = if test byte then [] ∷ pieces test bytes else begin_with byte (pieces test bytes)

abbrev pub has_bytes : List ℕ → Bool
has_bytes [] = false
has_bytes (byte ∷ bytes) = true

-- the tokens of one line
abbrev pub words_of : List ℕ → List (List ℕ)
words_of line = filter has_bytes (pieces is_blank line)

-- a line of a text: its number and its tokens
pub record Row : Type 0 where
  pub line : ℕ
  pub words : List (List ℕ)

abbrev pub begins_with : ℕ → List ℕ → Bool
begins_with first [] = false
begins_with first (byte ∷ bytes) = byte == first

-- nothing where the line has no token or is a comment
abbrev pub row_of : ℕ → ℕ → List (List ℕ) → List Row
row_of comment line [] = []
row_of comment line (word ∷ words) = if begins_with comment word then [] else record { line = line; words = word ∷ words } ∷ []

abbrev pub rows_from : ℕ → ℕ → List (List ℕ) → List Row
rows_from comment line [] = []
rows_from comment line (text ∷ texts) = row_of comment line (words_of text) ++ rows_from comment (line + 1) texts

-- the lines that have a token and are no comment
abbrev pub rows : ℕ → List ℕ → List Row
rows comment bytes = rows_from comment 1 (pieces is_line_end bytes)

-- a token and the number of its line
pub record Word : Type 0 where
  pub bytes : List ℕ
  pub line : ℕ

abbrev pub words_of_row : Row → List Word
words_of_row row = map (λ word. record { bytes = word; line = row.line }) row.words

-- all tokens of a text
abbrev pub tokens : ℕ → List ℕ → List Word
tokens comment bytes = flat_map words_of_row (rows comment bytes)

abbrev pub line_ends : List ℕ → ℕ
line_ends bytes = count_by is_line_end bytes

-- the line of the end: one more than the number of line ends before it
abbrev pub end_line : List ℕ → ℕ
end_line bytes = line_ends bytes + 1
