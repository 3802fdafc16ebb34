-- A value for each literal: those of near literals stand in a list, at a place of their own, those of far ones in a map.
use Rattle.std.specs.Prelude.{◌≡◌, ℕ, ◌+◌, ◌*◌, ℤ, pos, negsuc, Option, Some, IsTrue, is_some, nat_lt, slice_get, if◌then◌else◌}
use Rattle.std.specs.Ordering.{int_eq}
use Rattle.std.specs.HashMap as hash
use Rattle.std.specs.Borrow.{RattleType, MutBor, Fml, LendsSo}
use Rattle.lrat_rules.specs.contracts.by_literal.ByLiteral.{the_row}
use Rattle.lrat_rules.specs.declared.by_literal.ByLiteral.{ByLiteral}

-- twice the variable, and one more for a negative literal
abbrev pub place_of : ℤ → ℕ
place_of (pos n) = 2 * n
place_of (negsuc n) = 2 * n + 3

module _ {T : Type 0} where
  -- what this literal has, where it has an entry: near literals are those of the variables below 2 ^ 22
  unfoldable pub entry : ByLiteral T → ℤ → Option T
  entry values literal =
      if nat_lt (place_of literal) 8388608 then slice_get values.near.items (place_of literal) else hash.get int_eq values.far literal

-- once the borrow r ends, the literal has the last value written through it, and the others have what they had
abbrev pub lends_entry : (T : RattleType) → MutBor (ByLiteral T.Denot) → ℤ → Option (MutBor T.Denot) → Fml
lends_entry T s literal r = LendsSo (the_row T) T s r
    (λ n w. IsTrue (is_some (entry s.now literal)) → (x : ℤ) → entry n x ≡ (if int_eq x literal then Some w else entry s.now x))
    (λ n. (x : ℤ) → entry n x ≡ entry s.now x)
