-- What is left to show of `write_sat`.
use Rattle.std.proofs.Common.{refl}
use Rattle.answer_text.specs.Model.{model_text}
use Rattle.answer_text.specs.Status.{sat_text}
use Rattle.answer_text.proofs.Parts.{start, went_on, ended, failed_within}
use Rattle.answer_text.proofs.status.write_sat.Goals as goal

pub returns-in_err-write_all-clause-writes : goal.returns-in_err-write_all-clause-writes
returns-in_err-write_all-clause-writes g c = failed_within (start
    (sat_text c.args.values.now)) c.in_err-write_all.ensures.writes refl c.from_residual.ensures.0 (model_text c.args.values.now) refl

pub returns-clause-writes : goal.returns-clause-writes
returns-clause-writes g c = ended (went_on (start (sat_text c.args.values.now)) c.in_ok-write_all.ensures.writes refl
    (model_text c.args.values.now) refl) c.write_model.ensures.writes
