-- How many tokens can still be ahead of a scanner: as many as the bytes that are taken and not looked at yet can spell, and those that
-- follow them. So a place of the text with few tokens behind it is near the last byte taken.
use Rattle.std.specs.Prelude.{ℕ, ◌+◌, Bool, nat_le}
use Rattle.text_scan.specs.Items.{Items, the_end, too_long, next_word}
use Rattle.text_scan.specs.Scan.{block_size}

-- how many tokens these are
abbrev pub words_in : Items → ℕ
words_in (the_end line) = 0
words_in (too_long line) = 0
words_in (next_word word items) = words_in items + 1

-- They are no more than stand in a block of bytes that isn't looked at yet, with the token that it begins in, and in so many bytes that
-- follow it.
abbrev pub is_near : ℕ → Items → Bool
is_near more items = nat_le (words_in items) (block_size + 1 + more)
