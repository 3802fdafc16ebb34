-- The core of a refutation: the numbers of the formula's clauses that its additions name. (Unsatisfiable cores from clausal proofs:
-- Goldberg, Novikov: Verification of Proofs of Unsatisfiability for CNF Formulas, DATE 2003.)
use Rattle.std.specs.Prelude.{◌≡◌, ℕ, ◌-◌, Bool, not, ℤ, List, [], ◌∷◌, ◌++◌, map, length, slice_index_or, decimal, nat_eq, IsTrue}
use Rattle.std.specs.List.{filter, flat_map, list_any, range_with_len}
use Rattle.cnf_base.specs.declared.step.Step.{Step}
use Rattle.lrat_rules.specs.State.{State, start, without_clauses}
use Rattle.lrat_rules.specs.Derivation.{lines_from}
use Rattle.lrat_rules.specs.Run.{Reached, run, step_adds_empty}
use Rattle.proof_trim.specs.Trimmed.{names, trimmed}

-- an addition among these steps names the number
abbrev pub are_naming : List Step → ℕ → Bool
are_naming steps id = list_any (λ step. names step id) steps

-- those of the numbers 1, 2, .. of a formula of so many clauses, rising
abbrev pub core_of : ℕ → List Step → List ℕ
core_of count steps = filter (are_naming steps) (range_with_len 1 count)

-- the core that the trimmed form of a proof text has
abbrev pub core : List (List ℤ) → List ℕ → List ℕ
core clauses bytes = core_of (length clauses) (trimmed clauses bytes)

-- its text: a number a line
abbrev pub core_text : List ℕ → List ℕ
core_text numbers = flat_map (λ id. decimal id ++ 10 ∷ []) numbers

-- the clauses of these numbers
abbrev pub clauses_at : List (List ℤ) → List ℕ → List (List ℤ)
clauses_at clauses numbers = map (λ id. slice_index_or clauses (id - 1) []) numbers

-- the formula's numbers that aren't among these
abbrev pub others : ℕ → List ℕ → List ℕ
others count numbers = filter (λ id. not (list_any (nat_eq id) numbers)) (range_with_len 1 count)

-- the core alone, under the formula's numbers: at the start, the formula's other clauses are deleted
abbrev pub core_start : List (List ℤ) → List ℕ → State
core_start clauses numbers = record {
  live = without_clauses (start clauses).live (others (length clauses) numbers);
  top = length clauses;
}

-- the steps are good, each at its turn, and one of them adds the empty clause
pub record RefutesFrom (state : State) (steps : List Step) : Type 0 where
  pub end : State
  pub reached : run state (lines_from 1 steps) ≡ Reached end
  pub empty : IsTrue (list_any step_adds_empty steps)
