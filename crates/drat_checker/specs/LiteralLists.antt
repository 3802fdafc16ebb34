-- Lists of clause numbers by literals: those of near literals stand in a list, at a place of their own, those of far ones in a map.
use Rattle.std.specs.Prelude.{◌≡◌, ℕ, false, ℤ, List, [], nat_lt, slice_index_or, if◌then◌else◌}
use Rattle.std.specs.Ordering.{int_eq}
use Rattle.lrat_rules.specs.ByLiteral.{place_of}
use Rattle.drat_checker.specs.declared.number_lists.NumberLists.{NumberLists}
use Rattle.drat_checker.specs.declared.literal_lists.LiteralLists.{LiteralLists}
use Rattle.drat_checker.specs.Numbers.{KeepsNumbers, numbers_of}

-- near literals are those of the variables below 2 ^ 19
abbrev pub numbers_in : List (List ℕ) → NumberLists → ℤ → List ℕ
numbers_in near far x = if nat_lt (place_of x) 1048576 then slice_index_or near (place_of x) [] else numbers_of far (place_of x)

-- the numbers in the list of this literal
unfoldable pub numbers_at : LiteralLists → ℤ → List ℕ
numbers_at lists x = numbers_in lists.near.items lists.far x

-- no list loses a number, but that of one literal
pub record KeepsOthers (literal : ℤ) (old new : LiteralLists) : Type 0 where
  pub kept : (x : ℤ) → int_eq x literal ≡ false → KeepsNumbers (numbers_at old x) (numbers_at new x)

-- no list loses a number
pub record KeepsEach (old new : LiteralLists) : Type 0 where
  pub kept : (x : ℤ) → KeepsNumbers (numbers_at old x) (numbers_at new x)
