-- Parts of functions that bear numbers: a way to say that there are no more of them than numbers. (Bryant: Graph-Based Algorithms for
-- Boolean Function Manipulation, 1986, section 3.)
use Rattle.std.specs.Prelude.{◌≡◌, ◌<◌, ℕ, Bool, List, Contains}
use Rattle.node_table.specs.Value.{Levels}
use Rattle.bdd_terms.specs.Parts.{IsEssential}

-- Each part of this kind that isn't constant has a number below the bound, and two with one number are the same function.
pub record AreNumbered (is_part : (Levels → Bool) → Type 0) (bound : ℕ) : Type 0 where
  pub number : (part : Levels → Bool) → is_part part → IsEssential part → ℕ
  pub below : (part : Levels → Bool) (is : is_part part) (essential : IsEssential part) → number part is essential < bound
  pub same : (one other : Levels → Bool) (is_one : is_part one) (is_other : is_part other) (essential_one : IsEssential one)
      (essential_other : IsEssential other)
      → number one is_one essential_one ≡ number other is_other essential_other → (a : Levels) → one a ≡ other a

-- these levels alone count for a function
abbrev pub DependsOn : List ℕ → (Levels → Bool) → Type 0
DependsOn levels function = (a b : Levels) → ((level : ℕ) → Contains levels level → a level ≡ b level) → function a ≡ function b
