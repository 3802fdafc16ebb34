-- Orders of the variables, the top one first. (Bryant: Graph-Based Algorithms for Boolean Function Manipulation, 1986.)
use Rattle.std.specs.Prelude.{◌≡◌, ℕ, zero, suc, ◌<◌, ◌≤◌, List, [], ◌∷◌, ◌++◌, length, slice_index_or}

-- each of the variables 1, 2, .. up to their number stands once
pub record IsOrder (order : List ℕ) : Type 0 where
  pub within : (place : ℕ) → place < length order → (0 < slice_index_or order place 0) × (slice_index_or order place 0 ≤ length order)
  pub apart : (place other : ℕ) → place < length order → other < length order → slice_index_or order place 0 ≡ slice_index_or order other 0
      → place ≡ other
  pub each : (variable : ℕ) → 0 < variable → variable ≤ length order → (place : ℕ) × (place < length order)
      × (slice_index_or order place 0 ≡ variable)

-- 1, 2, .. up to a number
abbrev pub natural : ℕ → List ℕ
natural zero = []
natural (suc n) = natural n ++ suc n ∷ []
