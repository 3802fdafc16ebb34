-- What a scanner gives in turn: the tokens of a text, and then its end, or that it is longer than the limit.
use Rattle.std.specs.Prelude.{ℕ, List, [], ◌∷◌, map, length, take, nat_le, if◌then◌else◌}
use Rattle.std.specs.List.{list_any}
use Rattle.cnf_base.specs.Text.{Word, is_blank, tokens, end_line}

-- Each token, and in the end the line of the end, or, of a text that is too long, the line after its last line end
-- under the limit. So items end by themselves, and one recursion over them is a whole grammar.
pub data Items : Type 0 where
  the_end : ℕ → Items
  too_long : ℕ → Items
  next_word : Word → Items → Items

-- these words, and then those items
abbrev pub words_then : List Word → Items → Items
words_then [] items = items
words_then (word ∷ words) items = next_word word (words_then words items)

-- A token as it is kept: its first 65 bytes. It is longer than 64 exactly where the token is, and a token of at
-- most 64 bytes is kept whole.
abbrev pub kept : Word → Word
kept word = record { bytes = take 65 word.bytes; line = word.line }

-- a text up to its last blank: its tokens are those with a byte after them
abbrev pub ended_part : List ℕ → List ℕ
ended_part [] = []
ended_part (byte ∷ bytes) = if list_any is_blank (byte ∷ bytes) then byte ∷ ended_part bytes else []

-- The items of the front of a longer text. A token with no byte after it in the front isn't given, and in the place
-- of what comes after them stands 'too long'.
abbrev pub items_of_front : ℕ → List ℕ → Items
items_of_front comment bytes = words_then (map kept (tokens comment (ended_part bytes))) (too_long (end_line bytes))

-- The items of a text. One of more bytes than the limit is judged by as many bytes as the limit says.
abbrev pub items : ℕ → ℕ → List ℕ → Items
items comment limit bytes =
    if nat_le (length bytes) limit
    then words_then (map kept (tokens comment bytes)) (the_end (end_line bytes))
    else items_of_front comment (take limit bytes)
