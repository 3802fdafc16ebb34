-- Equations in conflict: the sum of some of them, modulo 2, is 0 = 1. An equation is a vector over the bits: its bit stands at 0, and
-- true at the numbers of its variables.
use Rattle.std.specs.Prelude.{◌≡◌, ◌&&◌, ◌<◌, ◌==◌, ℕ, zero, suc, Bool, true, false, not, List, [], ◌∷◌, map, IsTrue, ⊤}
use Rattle.std.specs.Bool.{beq}
use Rattle.std.specs.List.{list_any}

abbrev pub Vector : Type 0
Vector = ℕ → Bool

abbrev pub vector : List ℕ × Bool → Vector
vector equation zero = equation.1
vector equation (suc n) = list_any (λ variable. variable == suc n) equation.0

abbrev pub exclusive_or : Bool → Bool → Bool
exclusive_or a b = not (beq a b)

-- the sum of the chosen ones, by their places
abbrev pub total : (ℕ → Bool) → List Vector → Vector
total chosen [] place = false
total chosen (first ∷ more) place = exclusive_or (chosen 0 && first place) (total (λ i. chosen (suc i)) more place)

-- Each variable stands in an even number of the chosen ones, and an odd number of these have the bit 1.
pub record AreInConflict (equations : List (List ℕ × Bool)) : Type 0 where
  pub chosen : ℕ → Bool
  pub sum : (place : ℕ) → total chosen (map vector equations) place ≡ (place == 0)

-- a vector is the sum of some of these
pub record IsSpanned (rows : List Vector) (v : Vector) : Type 0 where
  pub chosen : ℕ → Bool
  pub sum : (place : ℕ) → v place ≡ total chosen rows place

-- by places in an order
abbrev pub AreSpanned : List Vector → List Vector → Type 0
AreSpanned rows [] = ⊤
AreSpanned rows (v ∷ more) = IsSpanned rows v × AreSpanned rows more

-- Rows over an order of places: each is true at its own, and false at those before it; and no two have one.
abbrev pub AreRows : (ℕ → ℕ) → List Vector → List ℕ → Type 0
AreRows place_at [] [] = ⊤
AreRows place_at [] (level ∷ levels) = ⊥
AreRows place_at (row ∷ rows) [] = ⊥
AreRows place_at (row ∷ rows) (level ∷ levels) =
    (row (place_at level) ≡ true) × (((l : ℕ) → l < level → row (place_at l) ≡ false)
    × ((IsTrue (list_any (λ other. other == level) levels) → ⊥) × AreRows place_at rows levels))
