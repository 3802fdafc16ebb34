-- How a run ends that adds up the formula's parity equations before its plan.
use Rattle.std.specs.Prelude.{◌≡◌, ◌≢◌, ◌⊎◌, ◌≤◌, ◌<◌, ◌+◌, ◌*◌, ℕ, Bool, List, [], length, Result, Err, IfOk, IsFalse, IsTrue}
use Rattle.cnf_base.specs.Formula.{Formula}
use Rattle.host_io.specs.Channel.{Channel}
use Rattle.lrat_rules.specs.State.{State}
use Rattle.schedule_plan.specs.declared.plan.Move.{Move}
use Rattle.schedule_plan.specs.declared.limits.Limits.{Limits}
use Rattle.parity_equations.specs.Conflict.{AreInConflict}
use Rattle.parity_equations.specs.Equations.{equations}
use Rattle.bdd_terms.specs.declared.error.RunError.{RunError}
use Rattle.bdd_terms.specs.declared.error.RunError.TheVariants.{OutOfMemory}
use Rattle.term_runner.specs.declared.outcome.Outcome.TheVariants.{NodeLimit}
use Rattle.term_runner.specs.declared.outcome.Run.{Run}
use Rattle.term_runner.specs.Clauses.{has_empty_clause}
use Rattle.term_runner.specs.Ends.{Ends, EndsAs, Shows}
use Rattle.bdd_terms.specs.Price.{IsMovePrice}
use Rattle.parity_terms.specs.Limit.{all_variables, nodes_needed, step_width}

-- so many moves the equations' sums cost at most: two for each clause, and two for each variable of each equation
abbrev pub phase_moves : Formula → ℕ
phase_moves formula =
    2 * length formula.clauses + 2 * (length (equations formula.clauses) * length (all_variables (equations formula.clauses)))

-- the price of one of these, for a width that a sum may need
pub record IsSumPrice (formula : Formula) (limits : Limits) (width price : ℕ) : Type 0 where
  pub is : IsMovePrice formula.vars limits.cache width price
  pub enough : step_width (length (all_variables (equations formula.clauses))) ≤ width

-- the greatest number of a proof: the formula's own clauses, and the moves of the sums and of the plan, at their prices
abbrev pub most_ids_behind : Formula → List Move → ℕ → ℕ → ℕ
most_ids_behind formula moves sum_price price = length formula.clauses + phase_moves formula * sum_price + length moves * price

-- no number is greater
abbrev pub IsPaidBehind : Formula → Limits → List Move → ℕ → ℕ → State → Type 0
IsPaidBehind formula limits moves width price state = (sum_width sum_price : ℕ) → IsSumPrice formula limits sum_width sum_price
    → state.top ≤ most_ids_behind formula moves sum_price price

-- the limits are above what the plan's width needs, and the sums before it
pub record AreAmpleBehind (limits : Limits) (formula : Formula) (moves : List Move) (width price : ℕ) : Type 0 where
  pub sum_width : ℕ
  pub sum_price : ℕ
  pub is : IsSumPrice formula limits sum_width sum_price
  pub nodes : width ≤ limits.max_nodes
  pub numbers : most_ids_behind formula moves sum_price price + 4 ≤ limits.max_ids

-- The plan ends as a run without sums does, but for its numbers, which come behind those of the sums.
abbrev pub EndsBehind : Bool → Channel → Channel → Formula → List ℕ → List Move → Limits → Result Run RunError → Type 0
EndsBehind tells before after formula order moves limits result =
    EndsAs tells before after formula order moves limits (Shows formula limits) (IsPaidBehind formula limits moves)
    (AreAmpleBehind limits formula moves) result

-- Where a clause is empty, or there is no equation, it ends as a run without them. Where the equations are in conflict the limit of nodes
-- is told only where fewer nodes are allowed than their sums may need.
pub record EndsWithParity (tells : Bool) (before after : Channel) (formula : Formula) (order : List ℕ) (moves : List Move) (limits : Limits)
    (result : Result Run RunError) : Type 0 where
  pub without : IsTrue (has_empty_clause formula.clauses) ⊎ (equations formula.clauses ≡ []) → result ≢ Err OutOfMemory
      → Ends tells before after formula order moves limits result
  pub behind : EndsBehind tells before after formula order moves limits result
  pub conflict : IsFalse (has_empty_clause formula.clauses) → AreInConflict (equations formula.clauses)
      → IfOk result (λ run. run.outcome ≡ NodeLimit → limits.max_nodes < nodes_needed (equations formula.clauses))
