-- The empty clause, which no assignment satisfies: whether a formula has one, and which is the first.
use Rattle.std.specs.Prelude.{◌≡◌, ◌≢◌, ℕ, suc, ◌≤◌, ◌<◌, ◌-◌, Bool, ℤ, List, [], ◌∷◌, length, slice_index_or, IsTrue, IsFalse, if◌then◌else◌}
use Rattle.std.specs.List.{list_any}
use Rattle.cnf_base.specs.ProofText.{is_empty}

-- one of the clauses has no literals
abbrev pub has_empty_clause : List (List ℤ) → Bool
has_empty_clause clauses = list_any is_empty clauses

-- the number of the first of these, from 1
abbrev pub first_empty : List (List ℤ) → ℕ
first_empty [] = 1
first_empty (clause ∷ more) = (if is_empty clause then 1 else suc (first_empty more))

-- each clause has a literal
pub record HaveLiterals (clauses : List (List ℤ)) : Type 0 where
  pub none : IsFalse (has_empty_clause clauses)
  pub each : (place : ℕ) → place < length clauses → slice_index_or clauses place [] ≢ []

-- this is the number of the first clause without literals
pub record IsFirstEmpty (clauses : List (List ℤ)) (number : ℕ) : Type 0 where
  pub first : number ≡ first_empty clauses
  pub some : IsTrue (has_empty_clause clauses)
  pub from_one : 1 ≤ number
  pub to_len : number ≤ length clauses
  pub empty : slice_index_or clauses (number - 1) [] ≡ []
