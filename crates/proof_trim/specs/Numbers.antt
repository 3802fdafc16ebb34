-- Which numbers are in a set. A word has 64 of them.
use Rattle.std.specs.Prelude.{ℕ, ◌/◌, ◌%◌, Bool, List, nat_eq, nat_lt, slice_get, if◌then◌else◌}
use Rattle.std.specs.Option.{unwrap_or}
use Rattle.std.specs.HashMap as hash
use Rattle.proof_trim.specs.Bits.{is_set}
use Rattle.proof_trim.specs.declared.numbers.Numbers.{Numbers}

-- a word of a list, 0 behind its end
abbrev pub near_word : List ℕ → ℕ → ℕ
near_word words page = unwrap_or (slice_get words page) 0

-- a word of the set, 0 where there is none: those below the bound stand in the list
abbrev pub word_at : Numbers → ℕ → ℕ
word_at numbers page =
    if nat_lt page 2097152 then near_word numbers.near.items page else unwrap_or (hash.get nat_eq numbers.far page) 0

-- the set has this number
abbrev pub has : Numbers → ℕ → Bool
has numbers id = is_set (word_at numbers (id / 64)) (id % 64)
