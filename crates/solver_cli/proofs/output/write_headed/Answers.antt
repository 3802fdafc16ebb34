use Rattle.std.proofs.Common.{refl, Some}
use Rattle.answer_text.proofs.Parts.{start, went_on, ended, failed_within}
use Rattle.solver_cli.specs.Answer.{ending_text, outcome_text}
use Rattle.solver_cli.proofs.output.write_headed.Goals as goal

pub returns-in_err-write_heading-clause-writes : goal.returns-in_err-write_heading-clause-writes
returns-in_err-write_heading-clause-writes g c =
    failed_within (start (ending_text (Some c.args.shape) c.args.limits c.args.ending.now)) c.in_err-write_heading.ensures.writes refl
    c.from_residual.ensures.0
    (outcome_text c.args.limits c.args.ending.now.outcome) refl

pub returns-clause-writes : goal.returns-clause-writes
returns-clause-writes g c =
    ended
    (went_on (start (ending_text (Some c.args.shape) c.args.limits c.args.ending.now)) c.in_ok-write_heading.ensures.writes refl
    (outcome_text c.args.limits c.args.ending.now.outcome) refl)
    c.write_answer.ensures.writes
