-- What is left to show of `live_law`.
use Rattle.lrat_rules.proofs.Starts.{clause_at-with_clause}
use Rattle.lrat_rules.proofs.laws.live_law.Goals as goal

pub returns : goal.returns
returns c = clause_at-with_clause
