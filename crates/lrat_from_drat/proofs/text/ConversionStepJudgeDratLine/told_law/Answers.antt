-- No two are told alike.
use Rattle.drat_proof.proofs.Converting.{apart}
use Rattle.lrat_from_drat.proofs.text.ConversionStepJudgeDratLine.told_law.Goals as goal

pub returns : goal.returns
returns g c = apart
