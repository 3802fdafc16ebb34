-- What is left to show of `resolvent_example`.
use Rattle.lrat_rules.proofs.Samples.{resolvent_good}
use Rattle.lrat_rules.proofs.examples.resolvent_example.Goals as goal

pub returns-clause-good : goal.returns-clause-good
returns-clause-good c = resolvent_good
