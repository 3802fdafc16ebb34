-- The levels of a set's variables.
use Rattle.std.specs.Prelude.{◌≡◌, ◌<◌, ℕ, true, List, map, reverse, Contains}
use Rattle.node_table.specs.Diagram.{Graph, levels, variable_at}
use Rattle.quantify.specs.SomeValues.{AreLevels, AreRising}
use Rattle.schedule_plan.specs.ScheduleState.{is_among}
use Rattle.schedule_plan.specs.SetMove.{falling}

-- those of variables, as they come: each variable of the order that is among them has its level there
pub record AreLevelsOf (graph : Graph) (xs found : List ℕ) : Type 0 where
  pub each : (level : ℕ) → Contains found level → (level < levels graph) × (is_among xs (variable_at graph level) ≡ true)
  pub all : (level : ℕ) → level < levels graph → is_among xs (variable_at graph level) ≡ true → Contains found level

-- the numbers of a list, each once and rising
pub record AreOnce (numbers once : List ℕ) : Type 0 where
  pub was : (n : ℕ) → Contains once n → Contains numbers n
  pub there : (n : ℕ) → Contains numbers n → Contains once n
  pub rising : (bound : ℕ) → ((n : ℕ) → Contains once n → n < bound) → AreRising 0 bound once

-- each once, from the first to the last
pub record AreSetLevels (graph : Graph) (xs set : List ℕ) : Type 0 where
  pub rising : AreLevels graph set
  pub falls : map (variable_at graph) (reverse set) ≡ falling graph.order xs
