-- Numbers in texts. A token of more than 64 bytes is no number; leading zeros are read, and -0 is no number. (These
-- three are this project's own rules: neither DIMACS nor the LRAT paper says anything of them.)
use Rattle.std.specs.Prelude.{ℕ, zero, suc, ◌+◌, ◌-◌, ◌*◌, Bool, false, ◌&&◌, ℤ, pos, negsuc, List, [], ◌∷◌, length, Option, None, Some}
use Rattle.std.specs.Prelude.{nat_le, ◌==◌, if◌then◌else◌}
use Rattle.std.specs.List.{list_all}
use Rattle.std.specs.Option.{option_map, option_and_then}

abbrev pub is_digit : ℕ → Bool
is_digit byte = nat_le 48 byte && nat_le byte 57

-- one or more digits
abbrev pub is_numeral : List ℕ → Bool
is_numeral [] = false
is_numeral (byte ∷ bytes) = list_all is_digit (byte ∷ bytes)

-- the value of the digits that follow a value
abbrev pub value_after : ℕ → List ℕ → ℕ
value_after value [] = value
value_after value (byte ∷ bytes) = value_after (10 * value + (byte - 48)) bytes

abbrev pub numeral_value : List ℕ → Option ℕ
numeral_value bytes = if is_numeral bytes then Some (value_after 0 bytes) else None

-- a token of at most 64 bytes; a longer one is neither a number nor a word
abbrev pub is_short : List ℕ → Bool
is_short token = nat_le (length token) 64

-- a plain number: digits alone
abbrev pub plain_number : List ℕ → Option ℕ
plain_number token = if is_short token then numeral_value token else None

-- the negative of a value, where it isn't zero
abbrev pub negative : ℕ → Option ℤ
negative zero = None
negative (suc n) = Some (negsuc n)

-- digits, or a minus sign (45) and digits
abbrev pub signed_value : List ℕ → Option ℤ
signed_value [] = None
signed_value (byte ∷ bytes) = if byte == 45 then option_and_then negative (numeral_value bytes) else option_map pos
    (numeral_value (byte ∷ bytes))

abbrev pub signed_number : List ℕ → Option ℤ
signed_number token = if is_short token then signed_value token else None
