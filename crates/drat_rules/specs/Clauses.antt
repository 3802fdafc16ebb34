-- Clauses as a list, in which a clause may stand more than once, and when two clauses are told to be the same: by their literals in their
-- order, or by the set of their literals.
use Rattle.std.specs.Prelude.{ℕ, Bool, ◌&&◌, ℤ, List, [], ◌∷◌, if◌then◌else◌}
use Rattle.std.specs.List.{list_any, list_all, count_by}
use Rattle.std.specs.Ordering.{int_eq}
use Rattle.std.specs.Cmp.Lexicographic.{pointwise}
use Rattle.lrat_rules.specs.Chain.{literals_of}
use Rattle.drat_rules.specs.declared.deletions.Deletions.{Deletions}
use Rattle.drat_rules.specs.declared.deletions.Deletions.TheVariants.{ByList, BySet}

-- when a clause is told to be another one
abbrev pub Equality : Type 0
Equality = List ℤ → List ℤ → Bool

-- the same literals in the same order
abbrev pub same_list : List ℤ → List ℤ → Bool
same_list = pointwise int_eq

-- the same literals in any order, however often
abbrev pub same_set : List ℤ → List ℤ → Bool
same_set clause other = list_all (literals_of other) clause && list_all (literals_of clause) other

abbrev pub equality_of : Deletions → Equality
equality_of ByList = same_list
equality_of BySet = same_set

-- some clause is this list of literals
abbrev pub is_among : List (List ℤ) → List ℤ → Bool
is_among clauses clause = list_any (same_list clause) clauses

-- how many are
abbrev pub count_of : List ℤ → List (List ℤ) → ℕ
count_of clause clauses = count_by (same_list clause) clauses

-- without the first clause that is told to be this one
abbrev pub without_first_by : Equality → List ℤ → List (List ℤ) → List (List ℤ)
without_first_by same clause [] = []
without_first_by same clause (other ∷ clauses) = if same clause other then clauses else other ∷ without_first_by same clause clauses

-- without the first that is the same list
abbrev pub without_first : List ℤ → List (List ℤ) → List (List ℤ)
without_first clause clauses = without_first_by same_list clause clauses
