-- What is left to show of `write_sign_and_digits`.
use Rattle.std.proofs.Common.{◌++◌, refl}
use Rattle.answer_text.proofs.Parts.{start, went_on, ended, failed_within}
use Rattle.answer_text.proofs.model.write_sign_and_digits.Goals as goal

pub returns-in_err-write_all-clause-writes : goal.returns-in_err-write_all-clause-writes
returns-in_err-write_all-clause-writes g c = failed_within (start (c.args.sign.now
    ++ c.args.digits.now)) c.in_err-write_all.ensures.writes refl c.from_residual.ensures.0 c.args.digits.now refl

pub returns-clause-writes : goal.returns-clause-writes
returns-clause-writes g c = ended (went_on (start (c.args.sign.now
    ++ c.args.digits.now)) c.in_ok-write_all.ensures.writes refl c.args.digits.now refl) c.write_all-2.ensures.writes
