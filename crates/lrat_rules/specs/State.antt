-- The clauses that stand at some line of a proof, by their numbers, and the greatest number so far. (Cruz-Filipe,
-- Heule, Hunt, Kaufmann, Schneider-Kamp: Efficient Certified RAT Verification, CADE 2017.)
use Rattle.std.specs.Prelude.{◌≡◌, ℕ, ◌+◌, ℤ, List, [], ◌∷◌, length, Option, Some, IsTrue, refl}
use Rattle.std.specs.Ordering.{nat_cmp}
use Rattle.std.specs.FinMap as map
use Rattle.std.specs.Coded.{Coded, code_by, coded×, coded_ℕ, coded_ℤ, coded_list}
use Rattle.cnf_base.specs.Truth.{Assignment, clause_holds}

-- live clauses by their numbers
abbrev pub Live : Type 0
Live = map.FinMap nat_cmp (List ℤ)

abbrev pub clause_at : Live → ℕ → Option (List ℤ)
clause_at live id = map.get live id

pub record State : Type 0 where
  pub live : Live
  pub top : ℕ

-- the clauses of a formula under the numbers from this one on
abbrev pub numbered_from : ℕ → List (List ℤ) → List (ℕ × List ℤ)
numbered_from id [] = []
numbered_from id (clause ∷ clauses) = (id, clause) ∷ numbered_from (id + 1) clauses

-- at first the formula's clauses are live, under 1, 2, ..
abbrev pub start : List (List ℤ) → State
start clauses = record { live = map.from_entries (numbered_from 1 clauses); top = length clauses }

abbrev pub with_clause : Live → ℕ → List ℤ → Live
with_clause live id clause = map.insert live id clause

-- without the clauses of these numbers; a number that isn't live is passed over
abbrev pub without_clauses : Live → List ℕ → Live
without_clauses live [] = live
without_clauses live (id ∷ ids) = without_clauses (map.remove live id) ids

-- an assignment under which each live clause holds
abbrev pub SatisfiesLive : Assignment → Live → Type 0
SatisfiesLive a live = (id : ℕ) (clause : List ℤ) → clause_at live id ≡ Some clause → IsTrue (clause_holds a clause)

-- a state can be a model's value: it is stored as the pair of its fields
abbrev pub state_code : Coded State
state_code =
    code_by (Live × ℕ) (coded× (map.code coded_ℕ (coded_list coded_ℤ)) coded_ℕ) (λ s. (s.live, s.top))
    (λ p. record { live = p.0; top = p.1 }) (λ _. refl)
