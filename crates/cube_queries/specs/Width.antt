-- What a session of cubes costs in numbers of clauses, by the width of the plan that conjoins the formula's clauses in turn. (Bryant, Heule:
-- Generating Extended Resolution Proofs with a BDD-Based SAT Solver, 2021, section 5.)
use Rattle.std.specs.Prelude.{◌≤◌, ◌+◌, ◌*◌, ℕ, Bool, ℤ, List, [], ◌∷◌, length}
use Rattle.cnf_base.specs.Formula.{Formula}
use Rattle.lrat_rules.specs.State.{State}
use Rattle.node_table.specs.Value.{Levels}
use Rattle.schedule_plan.specs.declared.limits.Limits.{Limits}
use Rattle.schedule_plan.specs.declared.plan.Move.{Move}
use Rattle.schedule_plan.specs.Plan.{conjoin}
use Rattle.bdd_terms.specs.Counting.{IsPartOfOne}
use Rattle.bdd_terms.specs.Parts.{AreMore}

-- more parts of these functions than this number aren't constant and differ from one another
abbrev pub HaveMore : List (Levels → Bool) → ℕ → Type 0
HaveMore functions number = AreMore (IsPartOfOne functions) number

-- the plan
abbrev pub plan_of : Formula → List Move
plan_of formula = conjoin (length formula.clauses)

-- the numbers that cubes take: one each, and those of the nodes' sums, which are added once
abbrev pub numbers_of_cubes : ℕ → List (List ℤ) → ℕ
numbers_of_cubes width [] = 0
numbers_of_cubes width (cube ∷ cubes) = width + length (cube ∷ cubes)

-- the greatest number that the plan's moves may come to, at this price each, and the cubes, behind the formula's own
abbrev pub most_ids : Formula → List (List ℤ) → ℕ → ℕ → ℕ
most_ids formula cubes width price =
    length formula.clauses + length (plan_of formula) * price + numbers_of_cubes width cubes

-- no number is above it
abbrev pub IsPaid : Formula → List (List ℤ) → ℕ → ℕ → State → Type 0
IsPaid formula cubes width price state = state.top ≤ most_ids formula cubes width price

-- the limits are above what the width needs
abbrev pub AreAmple : Limits → Formula → List (List ℤ) → ℕ → ℕ → Type 0
AreAmple limits formula cubes width price = (width ≤ limits.max_nodes) × (most_ids formula cubes width price + 4 ≤ limits.max_ids)
