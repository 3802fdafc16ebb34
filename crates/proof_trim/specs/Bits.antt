-- Which bits of a word are set.
use Rattle.std.specs.Prelude.{ℕ, Bool, nat_eq}
use Rattle.std.specs.Int.{bit_at}

-- the bit at this place, the lowest being at 0
abbrev pub is_set : ℕ → ℕ → Bool
is_set word place = nat_eq (bit_at word place) 1
