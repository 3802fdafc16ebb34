-- The clauses of denied lists, found one after another.
use Rattle.std.specs.Prelude.{◌≡◌, ◌<◌, ◌-◌, ◌++◌, ◌^◌, ℕ, Bool, true, false, ℤ, pos, List, [], ◌∷◌, Option, None, Some, IsPermutation, length, take}
use Rattle.std.specs.Prelude.{⊤}
use Rattle.std.proofs.Common.{replicate}
use Rattle.std.specs.List.Sorted.{IsNonDecreasingBy}
use Rattle.std.specs.Option.{option_and_then, option_map}
use Rattle.parity_equations.specs.declared.index.Index.{Index}
use Rattle.parity_equations.specs.Index.{number_of, padded}

-- variables of literals
abbrev pub AreVariables : List ℕ → Type 0
AreVariables [] = ⊤
AreVariables (variable ∷ more) = (0 < variable) × ((variable < 2 ^ 31) × AreVariables more)

-- a key with zeros from a place on
pub record IsBegun (place : ℕ) (key : List ℤ) : Type 0 where
  pub behind : key ≡ take place key ++ replicate (8 - place) (pos 0)
  pub eight : length key ≡ 8

-- the numbers under the keys of these lists behind others, where each has one
abbrev pub numbers_under : Index → List ℤ → List (List ℤ) → Option (List ℕ)
numbers_under index front [] = Some []
numbers_under index front (literals ∷ more) =
    option_and_then (λ number. option_map (λ numbers. number ∷ numbers) (numbers_under index front more))
    (number_of index (padded (front ++ literals)))

-- they were added to a list, or one is missing
abbrev pub CollectsAll : Option (List ℕ) → List ℕ → List ℕ → Bool → Type 0
CollectsAll found before after false = found ≡ None
CollectsAll None before after true = ⊥
CollectsAll (Some numbers) before after true = after ≡ before ++ numbers

-- these numbers, rising
abbrev pub HasSorted : Option (List ℕ) → List ℕ → Type 0
HasSorted None sorted = ⊥
HasSorted (Some numbers) sorted = IsPermutation numbers sorted × IsNonDecreasingBy (λ n. n) sorted
