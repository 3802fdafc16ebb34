-- The existential quantification by the variables of a set of levels: some values of them make the function hold. (Bryant:
-- Graph-Based Algorithms for Boolean Function Manipulation, 1986, section 4.4: restrict; Bryant, Heule: Generating Extended
-- Resolution Proofs with a BDD-Based SAT Solver, 2021, section 4.3.)
use Rattle.std.specs.Prelude.{◌≡◌, ◌≤◌, ◌<◌, ◌+◌, ◌||◌, ◌==◌, ℕ, Bool, true, false, List, [], ◌∷◌, Contains, IsTrue, length, drop, take}
use Rattle.std.specs.Prelude.{⊤}
use Rattle.std.specs.List.{list_any}
use Rattle.std.proofs.Common.{arith, refl}
use Rattle.node_table.specs.declared.node.Node.{Node}
use Rattle.node_table.specs.Diagram.{Graph, is_node, level_of, levels}
use Rattle.node_table.specs.Value.{Levels, IsSubfunction, value_of}
use Rattle.operations.specs.Results.{Quantified, with_level}

-- the function that holds where some values of these levels' variables make f hold
abbrev pub some_values : List ℕ → (Levels → Bool) → Levels → Bool
some_values [] f a = f a
some_values (level ∷ more) f a = some_values more f (with_level a level true) || some_values more f (with_level a level false)

-- The levels rise, from the first that may come, and are below a bound.
abbrev pub AreRising : ℕ → ℕ → List ℕ → Type 0
AreRising first bound [] = ⊤
AreRising first bound (level ∷ more) = (first ≤ level) × ((level < bound) × AreRising (level + 1) bound more)

-- a set of levels, in their order
abbrev pub AreLevels : Graph → List ℕ → Type 0
AreLevels graph set = AreRising 0 (levels graph) set

-- the function of a node
abbrev pub function_of : Graph → Node → Levels → Bool
function_of graph u a = value_of graph a u

-- The node w holds where some values of these levels' variables make u hold, and doesn't stand before u.
pub record SetQuantified (graph : Graph) (u : Node) (set : List ℕ) (w : Node) : Type 0 where
  pub stands : IsTrue (is_node graph w)
  pub not_above : level_of graph u ≤ level_of graph w
  pub value : (a : Levels) → value_of graph a w ≡ some_values set (function_of graph u) a

-- A subfunction of what f becomes by the levels of the set from some place on: those before it are not quantified yet, and are among those
-- that are fixed.
pub record IsFromPlace (f : Levels → Bool) (set : List ℕ) (part : Levels → Bool) : Type 0 where
  pub place : ℕ
  pub within : place < length set
  pub is_part : IsSubfunction (some_values (drop place set) f) part
  pub behind : (level : ℕ) → Contains (take place set) level → level < is_part.level

-- by no level: the node itself
pub by_none : (graph : Graph) (u : Node) → is_node graph u ≡ true → SetQuantified graph u [] u
by_none graph u stands = record { stands = stands; not_above = omega arith; value = λ a. refl }

-- Some values of these levels' variables make f hold: so does an assignment that is as this one beside them.
pub record HoldsBySome (set : List ℕ) (f : Levels → Bool) (a : Levels) : Type 0 where
  pub values : Levels
  pub beside : (i : ℕ) → list_any (λ level. i == level) set ≡ false → values i ≡ a i
  pub holds : f values ≡ true

-- What a quantification by a set says, so that neither the order of the levels nor their repetition counts. By one level it is
-- that by the level alone.
pub record SetMeaning : Type 0 where
  pub some : (set : List ℕ) (f : Levels → Bool) (a : Levels) → some_values set f a ≡ true → HoldsBySome set f a
  pub by : (set : List ℕ) (f : Levels → Bool) (a : Levels) → HoldsBySome set f a → some_values set f a ≡ true
  pub one : (graph : Graph) (u w : Node) (level : ℕ) → SetQuantified graph u (level ∷ []) w → Quantified graph u level w
