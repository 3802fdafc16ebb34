-- What a plan costs in numbers of clauses and in nodes, by its width. A try of a move makes a node for each part of its result at
-- most, of four clauses each, two more clauses for each pair of nodes that come together, and a unit; a move is tried twice at
-- most. Where the caches have room for all pairs of nodes, none comes together twice; else it may at each level. (Bryant, Heule:
-- Generating Extended Resolution Proofs with a BDD-Based SAT Solver, 2021, section 4.)
use Rattle.std.specs.Prelude.{◌≡◌, ◌⊎◌, ◌≤◌, ◌+◌, ◌*◌, ℕ, List, length, ⊤}
use Rattle.cnf_base.specs.Formula.{Formula}
use Rattle.lrat_rules.specs.State.{State}
use Rattle.lrat_rules.specs.Marks.{IsWithin}
use Rattle.node_table.specs.Lean.{IsLean}
use Rattle.schedule_plan.specs.declared.plan.Move.{Move}
use Rattle.schedule_plan.specs.declared.limits.Limits.{Limits}
use Rattle.term_runner.specs.declared.outcome.Outcome.{Outcome}
use Rattle.term_runner.specs.declared.outcome.Outcome.TheVariants.{Unsat, Sat, NodeLimit, IdLimit}

-- the greatest number of a plan's proof: the formula's own clauses, and the moves', at this price each
abbrev pub most_ids : Formula → List Move → ℕ → ℕ
most_ids formula moves price = length formula.clauses + length moves * price

-- The most nodes: those that stay between two moves, and a move's own.
abbrev pub most_nodes : ℕ → ℕ
most_nodes width = 3 * width + 999

-- a move adds so many nodes at most, or there are at most so many behind a reclamation and the second try
abbrev pub AddsFew : ℕ → ℕ → ℕ → Type 0
AddsFew old new width = (new ≤ old + width) ⊎ (new ≤ 2 * width)

-- A state within the price of so many moves behind this number, over so many variables and clauses and with caches of so many entries: no
-- number is greater, no more extension variables are in use, and of the clauses above the formula's no more are live than four for each
-- variable in use, one for each place of two caches and each clause of the formula, and those that one move may give.
pub record IsPaid (vars inputs first moves size width price : ℕ) (state : State) : Type 0 where
  pub within : IsWithin vars (first + moves * price) (most_nodes width) state
  pub lean : IsLean vars inputs (2 * size + inputs + price) state

-- that of a plan over a formula
abbrev pub IsPaidFor : Formula → Limits → List Move → ℕ → ℕ → State → Type 0
IsPaidFor formula limits moves width price =
    IsPaid formula.vars (length formula.clauses) (length formula.clauses) (length moves) limits.cache width price

-- Behind other calls, which gave the numbers up to the first one: no number is greater than at this price. What they left, beside the
-- formula's clauses, the plan need not have paid; so the rest is said where they gave none.
pub record IsPaidSince (vars inputs first moves size width price : ℕ) (state : State) : Type 0 where
  pub numbers : state.top ≤ first + moves * price
  pub from_start : first ≡ inputs → IsPaid vars inputs first moves size width price state

-- that of a plan over a formula
abbrev pub IsPaidFrom : ℕ → Formula → Limits → List Move → ℕ → ℕ → State → Type 0
IsPaidFrom first formula limits moves width price =
    IsPaidSince formula.vars (length formula.clauses) first (length moves) limits.cache width price

-- At the end of a plan one clause is left beside those of nodes and of two caches, the unit of its term.
abbrev pub IsLeanAtEnd : ℕ → ℕ → ℕ → State → Type 0
IsLeanAtEnd vars inputs size state = IsLean vars inputs (2 * size + 1) state

-- the formula was decided
abbrev pub IsDecision : Outcome → Type 0
IsDecision Unsat = ⊤
IsDecision (Sat values) = ⊤
IsDecision NodeLimit = ⊥
IsDecision IdLimit = ⊥

-- the limits are above what the width needs
abbrev pub AreAmple : Limits → Formula → List Move → ℕ → ℕ → Type 0
AreAmple limits formula moves width price = (width ≤ limits.max_nodes) × (most_ids formula moves price + 4 ≤ limits.max_ids)

-- those behind this number
abbrev pub AreAmpleFrom : ℕ → Limits → List Move → ℕ → ℕ → Type 0
AreAmpleFrom first limits moves width price = (width ≤ limits.max_nodes) × (first + length moves * price + 4 ≤ limits.max_ids)
