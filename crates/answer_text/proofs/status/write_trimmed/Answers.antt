-- What is left to show of `write_trimmed`.
use Rattle.std.proofs.Common.{refl}
use Rattle.answer_text.specs.Status.{trimmed_text, verified_line}
use Rattle.answer_text.proofs.Parts.{start, went_on, ended, failed_within}
use Rattle.answer_text.proofs.status.write_trimmed.Goals as goal

pub returns-in_err-write_kept-clause-writes : goal.returns-in_err-write_kept-clause-writes
returns-in_err-write_kept-clause-writes g c =
    failed_within (start (trimmed_text c.args.kept c.args.total)) c.in_err-write_kept.ensures.writes refl c.from_residual.ensures.0
    verified_line refl

pub returns-clause-writes : goal.returns-clause-writes
returns-clause-writes g c =
    ended (went_on (start (trimmed_text c.args.kept c.args.total)) c.in_ok-write_kept.ensures.writes refl verified_line refl)
    c.write_verified.ensures.writes
