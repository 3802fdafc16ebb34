-- What is left to show of `write_cube`.
use Rattle.std.proofs.Common.{refl}
use Rattle.std.specs.Prelude.{codes}
use Rattle.answer_text.specs.Status.{cube_line}
use Rattle.answer_text.proofs.Parts.{start, went_on, ended, failed_within}
use Rattle.answer_text.proofs.Words.{cube_parts}
use Rattle.answer_text.proofs.status.write_cube.Goals as goal

pub returns-in_err-write_count-clause-writes : goal.returns-in_err-write_count-clause-writes
returns-in_err-write_count-clause-writes g c =
    failed_within (start (cube_line c.args.number)) c.in_err-write_count.ensures.writes refl c.from_residual.ensures.0 (codes "\n")
    (cube_parts c.args.number)

pub returns-clause-writes : goal.returns-clause-writes
returns-clause-writes g c =
    ended (went_on (start (cube_line c.args.number)) c.in_ok-write_count.ensures.writes refl (codes "\n")
    (cube_parts c.args.number)) c.write_all.ensures.writes
