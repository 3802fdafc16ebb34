-- How often literals stand in the live clauses.
use Rattle.std.specs.Prelude.{ℕ, zero, suc, ◌+◌, ◌≤◌, ℤ, List, Option, None, Some, count_by}
use Rattle.std.specs.Option.{unwrap_or}
use Rattle.std.specs.Ordering.{int_eq}
use Rattle.lrat_rules.specs.State.{Live, clause_at}
use Rattle.lrat_rules.specs.ByLiteral.{entry}
use Rattle.lrat_checker.specs.declared.counts.Counts.{Counts}

-- the count of this literal
unfoldable pub count_of : Counts → ℤ → ℕ
count_of counts literal = unwrap_or (entry counts.0 literal) 0

-- how often the literal stands in a clause
abbrev pub times_in : ℤ → List ℤ → ℕ
times_in literal clause = count_by (int_eq literal) clause

abbrev pub times_at : ℤ → Option (List ℤ) → ℕ
times_at literal None = 0
times_at literal (Some clause) = times_in literal clause

-- the sum of the numbers below n
abbrev pub total : (ℕ → ℕ) → ℕ → ℕ
total f zero = 0
total f (suc n) = total f n + f n

-- no literal stands more often in the live clauses, whatever their numbers, than its count says
pub record AreCounted (counts : Counts) (live : Live) : Type 0 where
  pub counted : (literal : ℤ) (n : ℕ) → total (λ id. times_at literal (clause_at live id)) n ≤ count_of counts literal
