-- What a run may use that adds up the formula's parity equations before its plan, or that doesn't.
use Rattle.std.specs.Prelude.{◌<◌, ℕ, Bool, true, false, List, IsFalse}
use Rattle.cnf_base.specs.Formula.{Formula}
use Rattle.lrat_rules.specs.State.{State}
use Rattle.schedule_plan.specs.declared.plan.Move.{Move}
use Rattle.schedule_plan.specs.declared.limits.Limits.{Limits}
use Rattle.parity_equations.specs.Conflict.{AreInConflict}
use Rattle.parity_equations.specs.Equations.{equations}
use Rattle.parity_terms.specs.Limit.{nodes_needed}
use Rattle.parity_runs.specs.Ends.{AreAmpleBehind, IsPaidBehind}
use Rattle.term_runner.specs.Clauses.{has_empty_clause}
use Rattle.term_runner.specs.Price.{AreAmple, IsPaidFor}

-- the limits are above what the plan's width needs, and the sums before it, where there are some
abbrev pub AreAmpleAs : Bool → Limits → Formula → List Move → ℕ → ℕ → Type 0
AreAmpleAs false limits problem moves width price = AreAmple limits problem moves width price
AreAmpleAs true limits problem moves width price = AreAmpleBehind limits problem moves width price

-- the state keeps within the price of the plan, and of the sums before it
abbrev pub IsPaidAs : Bool → Formula → Limits → List Move → ℕ → ℕ → State → Type 0
IsPaidAs false problem limits moves width price = IsPaidFor problem limits moves width price
IsPaidAs true problem limits moves width price = IsPaidBehind problem limits moves width price

-- where the equations are in conflict, their sums may need more nodes than are allowed
abbrev pub NeedsSums : Limits → Formula → Type 0
NeedsSums limits problem = IsFalse (has_empty_clause problem.clauses) → AreInConflict (equations problem.clauses)
    → limits.max_nodes < nodes_needed (equations problem.clauses)
