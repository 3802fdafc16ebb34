-- The variables of a set set back by one stored term, from which all of them were quantified at once. Where they were quantified one
-- after another, from the last in an order to the first, each would have a term of its own: true where some values of those behind it
-- in the order make the stored term true. (Bryant, Heule: Generating Extended Resolution Proofs with a BDD-Based SAT Solver, 2021,
-- section 5.)
use Rattle.std.specs.Prelude.{◌≡◌, ◌||◌, ◌==◌, ℕ, Bool, true, false, not, List, [], ◌∷◌, Contains}
use Rattle.std.specs.List.{list_any}
use Rattle.cnf_base.specs.Truth.{Assignment, with_value}
use Rattle.reconstruction.specs.declared.cells.Cell.{Cell}
use Rattle.reconstruction.specs.Cells.{cell_value}

-- some values of these variables make it true
abbrev pub holds_by : (Assignment → Bool) → List ℕ → Assignment → Bool
holds_by f [] a = f a
holds_by f (x ∷ xs) a = holds_by f xs (with_value a x true) || holds_by f xs (with_value a x false)

-- false where some values of the later variables make the term true with the variable false, else true
abbrev pub one_back_by : (Assignment → Bool) → Assignment → ℕ → List ℕ → Assignment
one_back_by f a x later = with_value a x (not (holds_by f later (with_value a x false)))

-- the variables in turn, the first in the order first
abbrev pub set_back_by : (Assignment → Bool) → Assignment → List ℕ → Assignment
set_back_by f a [] = a
set_back_by f a (x ∷ xs) = set_back_by f (one_back_by f a x xs) xs

abbrev pub is_among : List ℕ → ℕ → Bool
is_among xs x = list_any (λ y. x == y) xs

-- the variable's value doesn't matter
abbrev pub IsFreeOf : (Assignment → Bool) → ℕ → Type 0
IsFreeOf f x = (a : Assignment) (value : Bool) → f (with_value a x value) ≡ f a

-- No cell's variable matters to its children: as in a diagram, each variable stands once on a way down.
pub record AreFree (cells : List Cell) : Type 0 where
  pub high : (cell : Cell) → Contains cells cell → IsFreeOf (λ a. cell_value cells a cell.high) cell.variable
  pub low : (cell : Cell) → Contains cells cell → IsFreeOf (λ a. cell_value cells a cell.low) cell.variable
