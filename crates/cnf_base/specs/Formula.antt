-- A formula in conjunctive normal form, and how it is stored: all literals in one row, cut at the clauses' ends.
use Rattle.std.specs.Prelude.{ℕ, zero, suc, ◌≤◌, ◌<◌, ◌^◌, Bool, ◌&&◌, ℤ, List, [], ◌∷◌, length, nat_le, slice_range, slice_index, IsTrue}
use Rattle.std.specs.List.{list_all}
use Rattle.cnf_base.specs.Truth.{is_literal_of, AreClausesOf}
use Rattle.cnf_base.specs.Limits.{max_clauses, max_vars}

-- how many variables it has, and its clauses as they stand
pub record Formula : Type 0 where
  pub vars : ℕ
  pub clauses : List (List ℤ)

-- the limits of the DIMACS profile, and that its literals are of its variables
pub record IsFormula (formula : Formula) : Type 0 where
  pub vars : formula.vars ≤ max_vars
  pub count : length formula.clauses ≤ max_clauses
  pub literals : AreClausesOf formula.vars formula.clauses

-- a formula that is being built: its ended clauses, and the literals of the one that was begun
pub record Draft : Type 0 where
  pub vars : ℕ
  pub clauses : List (List ℤ)
  pub begun : List ℤ

-- the clauses that end at these places of the row, each from the end of the one before
abbrev pub cut_at : List ℤ → ℕ → List ℕ → List (List ℤ)
cut_at literals start [] = []
cut_at literals start (end ∷ ends) = slice_range literals start end ∷ cut_at literals end ends

-- the last end, or the start of the row
abbrev pub last_end : ℕ → List ℕ → ℕ
last_end start [] = start
last_end start (end ∷ ends) = last_end end ends

-- where the clause at a place begins
abbrev pub start_at : ℕ → List ℕ → ℕ → ℕ
start_at start ends zero = start
start_at start ends (suc place) = slice_index ends place

-- the ends don't fall, and none is past the row
abbrev pub are_ends : ℕ → List ℕ → ℕ → Bool
are_ends start [] limit = nat_le start limit
are_ends start (end ∷ ends) limit = nat_le start end && are_ends end ends limit

-- a row of literals with its ends, within the limits, its literals of these variables
pub record IsStored (vars : ℕ) (literals : List ℤ) (ends : List ℕ) : Type 0 where
  pub in_order : IsTrue (are_ends 0 ends (length literals))
  pub few_vars : vars ≤ max_vars
  pub few_ends : length ends ≤ max_clauses
  pub few_literals : length literals < 2 ^ 32
  pub of_vars : IsTrue (list_all (is_literal_of vars) literals)
