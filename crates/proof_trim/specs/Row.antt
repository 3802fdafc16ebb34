-- Numbers in a stack of bytes: of each the digits to the base 128, the highest first, with 128 added to all but the lowest.
use Rattle.std.specs.Prelude.{ℕ, ◌+◌, ◌-◌, ◌*◌, ◌^◌, ◌%◌, List, [], ◌∷◌, ◌++◌, reverse, nat_lt, if◌then◌else◌}
use Rattle.std.specs.List.{flat_map}
use Rattle.proof_trim.specs.declared.digits.Taken.{Taken}
use Rattle.proof_trim.specs.declared.digits.Taken.TheVariants.{Whole, Part}

-- the bytes of full chunks and of the last one, the last byte first
abbrev pub stacked : List (List ℕ) → List ℕ → List ℕ
stacked full last = reverse last ++ flat_map reverse (reverse full)

-- one digit more of a number of 64 bits
abbrev pub with_digit : ℕ → ℕ → ℕ
with_digit number digit = (number * 128 % 2 ^ 64 + digit) % 2 ^ 64

-- the numbers that bytes spell, where these digits of the first came before
abbrev pub numbers_behind : ℕ → List ℕ → List ℕ
numbers_behind number [] = []
numbers_behind number (byte ∷ bytes) =
    if nat_lt byte 128 then with_digit number byte ∷ numbers_behind 0 bytes else numbers_behind (with_digit number (byte - 128)) bytes

abbrev pub numbers : List ℕ → List ℕ
numbers bytes = numbers_behind 0 bytes

-- the numbers of bytes, of which this came off
abbrev pub behind_taken : Taken → List ℕ → List ℕ
behind_taken (Whole number) bytes = number ∷ numbers bytes
behind_taken (Part number) bytes = numbers_behind number bytes
