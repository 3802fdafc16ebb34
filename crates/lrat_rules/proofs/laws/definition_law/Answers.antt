-- What is left to show of `definition_law`.
use Rattle.lrat_rules.proofs.Definitions.{fault-definition}
use Rattle.lrat_rules.proofs.laws.definition_law.Goals as goal

pub returns : goal.returns
returns c = fault-definition
