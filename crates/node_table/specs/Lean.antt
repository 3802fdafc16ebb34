-- How many clauses are live: those of the nodes whose extension variables are in use, and those that were added beside them.
use Rattle.std.specs.Prelude.{◌≤◌, ◌+◌, ◌*◌, ℕ, List, Contains, length, nat_lt}
use Rattle.std.specs.List.{filter}
use Rattle.std.specs.FinMap as map
use Rattle.lrat_rules.specs.State.{State, Live}
use Rattle.lrat_rules.specs.Marks.{in_use}
use Rattle.node_table.specs.Table.{TableState, IsAddedTo}

-- how many clauses with numbers above this one are live
abbrev pub live_above : ℕ → Live → ℕ
live_above inputs live = length (filter (nat_lt inputs) (map.keys live))

-- Of the clauses above the formula's no more are live than four for each extension variable in use, and so many more.
abbrev pub IsLean : ℕ → ℕ → ℕ → State → Type 0
IsLean vars inputs number state = live_above inputs state.live ≤ 4 * in_use vars state + number

-- Beside definitions no more clauses were added than this number: some list has them all.
pub record HasAdded {S : Type 0} (table : TableState S) (number : ℕ) : Type 0 where
  pub ids : List ℕ
  pub few : length ids ≤ number
  pub all : (id : ℕ) → IsAddedTo table id → Contains ids id
