-- No two are told alike.
use Rattle.drat_proof.proofs.Converting.{apart}
use Rattle.drat_proof.proofs.text.ConversionStepJudgeLratLine.told_law.Goals as goal

pub returns : goal.returns
returns g c = apart
