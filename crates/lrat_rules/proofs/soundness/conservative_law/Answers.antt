-- What is left to show of `conservative_law`.
use Rattle.lrat_rules.proofs.Conserving.{added_clause_holds}
use Rattle.lrat_rules.proofs.soundness.conservative_law.Goals as goal

pub returns : goal.returns
returns c = added_clause_holds
