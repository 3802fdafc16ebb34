use Rattle.std.proofs.Common.{refl}
use Rattle.answer_text.proofs.Parts.{start, went_on, ended, failed_within}
use Rattle.std.proofs.Common.{Some}
use Rattle.solver_cli.specs.Answer.{heading, last_text}
use Rattle.solver_cli.proofs.output.write_heading.Goals as goal

pub returns-in_err-write_board-clause-writes : goal.returns-in_err-write_board-clause-writes
returns-in_err-write_board-clause-writes g c =
    failed_within (start (heading (Some c.args.shape) c.args.ending.now)) c.in_err-write_board.ensures.writes refl c.from_residual.ensures.0
    (last_text c.args.ending.now) refl

pub returns-clause-writes : goal.returns-clause-writes
returns-clause-writes g c =
    ended (went_on (start (heading (Some c.args.shape) c.args.ending.now)) c.in_ok-write_board.ensures.writes refl
    (last_text c.args.ending.now) refl) c.write_last.ensures.writes
