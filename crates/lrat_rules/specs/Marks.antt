-- What the state that a proof leads to tells of the solver's run: how many extension variables are in use.
use Rattle.std.specs.Prelude.{ℕ, ◌≤◌, ℤ, nat_abs, List, [], Option, None, Some, map, nat_lt}
use Rattle.std.specs.List.{filter, flat_map}
use Rattle.std.specs.Ordering.{nat_cmp}
use Rattle.std.specs.FinMap as map
use Rattle.std.specs.FinSet as set
use Rattle.lrat_rules.specs.State.{State, Live, clause_at}

-- the variables of a clause, where there is one
abbrev pub variables_of : Option (List ℤ) → List ℕ
variables_of None = []
variables_of (Some clause) = map nat_abs clause

-- the variables of the live clauses
abbrev pub live_variables : Live → List ℕ
live_variables live = flat_map (λ id. variables_of (clause_at live id)) (map.keys live)

-- those above vars
abbrev pub extension_variables : ℕ → Live → set.FinSet nat_cmp
extension_variables vars live = set.from_list (filter (nat_lt vars) (live_variables live))

-- how many there are
abbrev pub in_use : ℕ → State → ℕ
in_use vars state = set.len (extension_variables vars state.live)

-- A state keeps within these limits: no number is above the first, and at most so many extension variables are in use
-- as the second says.
pub record IsWithin (vars max_ids max_nodes : ℕ) (state : State) : Type 0 where
  pub numbers : state.top ≤ max_ids
  pub nodes : in_use vars state ≤ max_nodes
