-- Lists of clause numbers by keys. A list may have more numbers than those of clauses that stand, and a number twice.
use Rattle.std.specs.Prelude.{◌≡◌, ℕ, ◌<◌, ◌≤◌, Bool, true, false, List, [], ◌∷◌, is_some, nat_eq, IsTrue, ⊤}
use Rattle.std.specs.List.{list_any}
use Rattle.std.specs.Option.{unwrap_or}
use Rattle.std.specs.HashMap as hash
use Rattle.drat_checker.specs.declared.number_lists.NumberLists.{NumberLists}
use Rattle.drat_checker.specs.Places.{Places, place_at}

abbrev pub has_number : ℕ → List ℕ → Bool
has_number number numbers = list_any (nat_eq number) numbers

-- each number is less than those behind it
abbrev pub IsRising : List ℕ → Type 0
IsRising [] = ⊤
IsRising (number ∷ numbers) = ((later : ℕ) → has_number later numbers ≡ true → number < later) × IsRising numbers

-- and none is greater than this one
pub record AreRising (most : ℕ) (numbers : List ℕ) : Type 0 where
  pub rising : IsRising numbers
  pub within : (number : ℕ) → has_number number numbers ≡ true → number ≤ most

-- the number is the last one
abbrev pub ends_with : ℕ → List ℕ → Bool
ends_with number [] = false
ends_with number (last ∷ []) = nat_eq last number
ends_with number (first ∷ second ∷ numbers) = ends_with number (second ∷ numbers)

-- a clause stands under this number
abbrev pub stands : Places → ℕ → Bool
stands places number = is_some (place_at places number)

-- no number is lost
pub record KeepsNumbers (old new : List ℕ) : Type 0 where
  pub kept : (number : ℕ) → IsTrue (has_number number old) → IsTrue (has_number number new)

-- no number is lost under which a clause stands
pub record KeepsStanding (places : Places) (old new : List ℕ) : Type 0 where
  pub kept : (number : ℕ) → IsTrue (stands places number) → IsTrue (has_number number old) → IsTrue (has_number number new)

-- the numbers in the list of this key
abbrev pub numbers_of : NumberLists → ℕ → List ℕ
numbers_of lists key = unwrap_or (hash.get nat_eq lists.lists key) []

-- no list loses a number
pub record KeepsLists (old new : NumberLists) : Type 0 where
  pub kept : (key : ℕ) → KeepsNumbers (numbers_of old key) (numbers_of new key)

-- no list loses a number under which a clause stands
pub record KeepsStandingLists (places : Places) (old new : NumberLists) : Type 0 where
  pub kept : (key : ℕ) → KeepsStanding places (numbers_of old key) (numbers_of new key)

-- where lists have no number above this one, they rise still
pub record KeepsRising (most : ℕ) (old new : NumberLists) : Type 0 where
  pub kept : (key : ℕ) → AreRising most (numbers_of old key) → AreRising most (numbers_of new key)
