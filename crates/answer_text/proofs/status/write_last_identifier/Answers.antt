-- What is left to show of `write_last_identifier`.
use Rattle.std.proofs.Common.{refl}
use Rattle.std.specs.Prelude.{codes}
use Rattle.answer_text.specs.Status.{last_line}
use Rattle.answer_text.proofs.Parts.{start, went_on, ended, failed_within}
use Rattle.answer_text.proofs.Words.{last_parts}
use Rattle.answer_text.proofs.status.write_last_identifier.Goals as goal

pub returns-in_err-write_count-clause-writes : goal.returns-in_err-write_count-clause-writes
returns-in_err-write_count-clause-writes g c =
    failed_within (start (last_line c.args.id)) c.in_err-write_count.ensures.writes refl c.from_residual.ensures.0 (codes "\n")
    (last_parts c.args.id)

pub returns-clause-writes : goal.returns-clause-writes
returns-clause-writes g c =
    ended (went_on (start (last_line c.args.id)) c.in_ok-write_count.ensures.writes refl (codes "\n")
    (last_parts c.args.id)) c.write_all.ensures.writes
