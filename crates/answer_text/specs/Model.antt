-- The lines that tell a model: each variable once in rising order, with a sign where it is false, and a zero.
-- (SAT Competitions, output format: `v` lines. The order and the width of 78 bytes are this project's own.)
use Rattle.std.specs.Prelude.{ℕ, ◌+◌, Bool, true, false, List, [], ◌∷◌, ◌++◌, length, decimal, codes, nat_le, if◌then◌else◌}

-- a variable as it stands in a line
abbrev pub literal : ℕ → Bool → List ℕ
literal variable true = decimal variable
literal variable false = codes "-" ++ decimal variable

-- the variables from this one on, and the zero
abbrev pub words_from : ℕ → List Bool → List (List ℕ)
words_from variable [] = codes "0" ∷ []
words_from variable (value ∷ values) = literal variable value ∷ words_from (variable + 1) values

abbrev pub model_words : List Bool → List (List ℕ)
model_words values = words_from 1 values

-- the most bytes of a line without its line end
abbrev pub max_width : ℕ
max_width = 78

-- a line of so many bytes has room for the word
abbrev pub has_room : ℕ → List ℕ → Bool
has_room width word = nat_le (width + 1 + length word) max_width

-- what stands before a word: a space, behind `v` on a new line where the old one has no room
abbrev pub separator : ℕ → List ℕ → List ℕ
separator width word = (if has_room width word then codes " " else codes "\nv ")

-- the bytes of the line behind a word
abbrev pub width_behind : ℕ → List ℕ → ℕ
width_behind width word = (if has_room width word then width + 1 + length word else 2 + length word)

-- the words and the last line end, from a line of so many bytes on
abbrev pub wrapped : ℕ → List (List ℕ) → List ℕ
wrapped width [] = codes "\n"
wrapped width (word ∷ words) = separator width word ++ word ++ wrapped (width_behind width word) words

abbrev pub model_text : List Bool → List ℕ
model_text values = codes "v" ++ wrapped 1 (model_words values)
