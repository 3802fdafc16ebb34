-- The parts of a function, and how many of them differ. A reduced diagram has a node for each part of its function that isn't constant. (Bryant:
-- Graph-Based Algorithms for Boolean Function Manipulation, 1986, section 3.)
use Rattle.std.specs.Prelude.{◌≡◌, ◌<◌, ℕ, Bool, false, List, length, slice_index_or}
use Rattle.cnf_base.specs.Formula.{Formula}
use Rattle.node_table.specs.Value.{Levels, IsSubfunction}
use Rattle.schedule_plan.specs.Plan.{Term, term_holds}
use Rattle.clause_terms.specs.Term.{by_variable}

-- a term's function, by levels
abbrev pub term_function : Formula → List ℕ → Term → Levels → Bool
term_function formula order term a = term_holds formula (by_variable order a) term

-- it isn't constant: the value of some variable matters
abbrev pub IsEssential : (Levels → Bool) → Type 0
IsEssential part = (b : Bool) → ((a : Levels) → part a ≡ b) → ⊥

-- two functions differ
abbrev pub Differ : (Levels → Bool) → (Levels → Bool) → Type 0
Differ one other = ((a : Levels) → one a ≡ other a) → ⊥

-- the function at a place of a list
abbrev pub part_at : List (Levels → Bool) → ℕ → Levels → Bool
part_at parts place = slice_index_or parts place (λ a. false)

-- More of these parts than this number aren't constant and differ from one another.
pub record AreMore (is_part : (Levels → Bool) → Type 0) (number : ℕ) : Type 0 where
  pub parts : List (Levels → Bool)
  pub more : number < length parts
  pub are : (place : ℕ) → place < length parts → is_part (part_at parts place)
  pub essential : (place : ℕ) → place < length parts → IsEssential (part_at parts place)
  pub differ : (place other : ℕ) → place < other → other < length parts → Differ (part_at parts place) (part_at parts other)

-- a function has no more parts than this number
abbrev pub HasAtMost : (Levels → Bool) → ℕ → Type 0
HasAtMost function number = AreMore (IsSubfunction function) number → ⊥
