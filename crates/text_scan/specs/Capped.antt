-- Values cut at a bound that is above every limit of the formats, so that numerals of any length are judged.
use Rattle.std.specs.Prelude.{ℕ, suc, min, ℤ, pos, negsuc, neg_ℤ}

abbrev pub cap : ℕ
cap = 1000000000000000000

abbrev pub capped : ℕ → ℕ
capped n = min n cap

-- the same of a magnitude
abbrev pub capped_ℤ : ℤ → ℤ
capped_ℤ (pos n) = pos (capped n)
capped_ℤ (negsuc n) = neg_ℤ (pos (capped (suc n)))
