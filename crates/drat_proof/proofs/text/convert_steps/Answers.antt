-- By what the run over the steps says.
use Rattle.drat_proof.proofs.Converting.{runs_converts, runs_kept}
use Rattle.drat_proof.proofs.text.convert_steps.Goals as goal

pub returns-clause-converts : goal.returns-clause-converts
returns-clause-converts g c =
    runs_converts _ _ _ _ _ _ _ _ _ _ _ _ c.judge_steps.ensures.runs c.judge_steps.ensures.checks

pub returns-clause-kept : goal.returns-clause-kept
returns-clause-kept g c = runs_kept _ _ _ _ _ _ _ _ _ _ _ _ c.judge_steps.ensures.runs
