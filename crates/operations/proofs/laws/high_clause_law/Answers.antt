-- What is left to show of `high_clause_law`.
use Rattle.operations.proofs.HighClauses.{high_clauses}
use Rattle.operations.proofs.laws.high_clause_law.Goals as goal

pub returns : goal.returns
returns g c = high_clauses c.steps_law.ensures
