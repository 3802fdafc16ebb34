-- Orders that are made of a sequence of variables, which may lack some and repeat some.
use Rattle.std.specs.Prelude.{◌≡◌, ℕ, suc, ◌+◌, ◌-◌, ◌<◌, Bool, true, false, List, length, slice_index_or}
use Rattle.std.specs.List.{sum_by}

-- a variable stands among those
abbrev pub Stands : ℕ → List ℕ → Type 0
Stands variable variables = (place : ℕ) × (place < length variables) × (slice_index_or variables place 0 ≡ variable)

-- variables that were kept so far, of so many
pub record Kept : Type 0 where
  pub vars : ℕ
  pub variables : List ℕ

-- one for a variable that hasn't come yet
abbrev pub to_come : Bool → ℕ
to_come true = 0
to_come false = 1

-- variables, each once, with a flag for each of all: whether the next number stands among them
pub record AreKept (vars : ℕ) (variables : List ℕ) (flags : List Bool) : Type 0 where
  pub each : length flags ≡ vars
  pub within : (place : ℕ) → place < length variables → (0 < slice_index_or variables place 0)
      × (slice_index_or flags (slice_index_or variables place 0 - 1) false ≡ true)
  pub apart : (place other : ℕ) → place < length variables → other < length variables → slice_index_or variables place 0
      ≡ slice_index_or variables other 0 → place ≡ other
  pub stand : (vertex : ℕ) → slice_index_or flags vertex false ≡ true → Stands (suc vertex) variables
  pub count : length variables + sum_by to_come flags ≡ vars
