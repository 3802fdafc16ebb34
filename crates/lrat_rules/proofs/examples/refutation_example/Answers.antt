-- What is left to show of `refutation_example`.
use Rattle.lrat_rules.proofs.Samples.{opposite_refuted}
use Rattle.lrat_rules.proofs.examples.refutation_example.Goals as goal

pub returns : goal.returns
returns c = opposite_refuted
