-- What is left to show of `write_numbered`.
use Rattle.std.proofs.Common.{◌++◌, refl}
use Rattle.answer_text.specs.Status.{cube_line}
use Rattle.answer_text.proofs.Parts.{start, went_on, ended, failed_within}
use Rattle.solver_cli.specs.Replies.{answer_lines}
use Rattle.solver_cli.proofs.replies.write_numbered.Goals as goal

pub returns-in_err-write_cube-clause-writes : goal.returns-in_err-write_cube-clause-writes
returns-in_err-write_cube-clause-writes g c =
    failed_within (start (cube_line c.args.number ++ answer_lines c.args.answer.now)) c.in_err-write_cube.ensures.writes refl
    c.from_residual.ensures.0 (answer_lines c.args.answer.now) refl

pub returns-clause-writes : goal.returns-clause-writes
returns-clause-writes g c =
    ended (went_on (start (cube_line c.args.number ++ answer_lines c.args.answer.now)) c.in_ok-write_cube.ensures.writes refl
    (answer_lines c.args.answer.now) refl) c.write_reply.ensures.writes
