-- What is asked of the live clauses where candidates are left: of each, or of their number.
use Rattle.std.specs.Prelude.{ℕ, ◌≤◌, Bool, true, not, ◌||◌, ℤ, List, Option, None, Some, ◌==◌, if◌then◌else◌}
use Rattle.std.specs.List.{list_any, list_all}
use Rattle.cnf_base.specs.declared.list.Group.{Group}
use Rattle.lrat_rules.specs.State.{Live}
use Rattle.lrat_rules.specs.Chain.{FalseSet}
use Rattle.lrat_rules.specs.Addition.{holds_negated, is_blocked_by, is_candidate}
use Rattle.lrat_checker.specs.Counts.{total}

-- a group names this number
abbrev pub has_group : List Group → ℕ → Bool
has_group groups id = list_any (λ group. group.id == id) groups

-- each group names a candidate
abbrev pub name_candidates : Live → ℤ → List Group → Bool
name_candidates live pivot groups = list_all (λ group. is_candidate live pivot group.id) groups

-- the clause of this number is no candidate, or is blocked, or has a group
abbrev pub settles : FalseSet → ℤ → List Group → ℕ → List ℤ → Bool
settles n pivot groups id clause = not (holds_negated pivot clause) || is_blocked_by n pivot clause || has_group groups id

-- what is asked of a number and its clause, where it has one
abbrev pub passes_at : (ℕ → List ℤ → Bool) → ℕ → Option (List ℤ) → Bool
passes_at test id None = true
passes_at test id (Some clause) = test id clause

-- the same of the clause that is live under this number, if any
abbrev pub settles_at : FalseSet → ℤ → List Group → ℕ → Option (List ℤ) → Bool
settles_at n pivot groups id place = passes_at (settles n pivot groups) id place

-- 1 where the number passes the test
abbrev pub one_where : (ℕ → Bool) → ℕ → ℕ
one_where test id = if test id then 1 else 0

-- at least so many numbers are named by groups
pub record IsCountOfNumbers (groups : List Group) (count : ℕ) : Type 0 where
  pub bound : ℕ
  pub named : count ≤ total (one_where (has_group groups)) bound
