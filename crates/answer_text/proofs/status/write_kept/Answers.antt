-- What is left to show of `write_kept`.
use Rattle.std.proofs.Common.{ℕ, List, ◌++◌, refl}
use Rattle.std.specs.Prelude.{codes}
use Rattle.answer_text.specs.Status.{kept_line}
use Rattle.answer_text.proofs.Parts.{start, went_on, ended, failed_within}
use Rattle.answer_text.proofs.Words.{count, kept_parts}
use Rattle.answer_text.proofs.status.write_kept.Goals as goal

-- the line from its second number on
abbrev from_total : ℕ → List ℕ
from_total total = count (codes " of ") total ++ codes "\n"

pub returns-in_err-write_count-clause-writes : goal.returns-in_err-write_count-clause-writes
returns-in_err-write_count-clause-writes g c =
    failed_within (start (kept_line c.args.kept c.args.total)) c.in_err-write_count.ensures.writes refl c.from_residual.ensures.0
    (from_total c.args.total) (kept_parts c.args.kept c.args.total)

pub returns-in_err-write_count-2-clause-writes : goal.returns-in_err-write_count-2-clause-writes
returns-in_err-write_count-2-clause-writes g c =
    failed_within
    (went_on (start (kept_line c.args.kept c.args.total)) c.in_ok-write_count.ensures.writes refl (from_total c.args.total)
    (kept_parts c.args.kept c.args.total))
    c.in_err-write_count-2.ensures.writes refl c.from_residual-in_err-write_count-2.ensures.0 (codes "\n") refl

pub returns-clause-writes : goal.returns-clause-writes
returns-clause-writes g c =
    ended
    (went_on
    (went_on (start (kept_line c.args.kept c.args.total)) c.in_ok-write_count.ensures.writes refl (from_total c.args.total)
    (kept_parts c.args.kept c.args.total))
    c.in_ok-write_count-2.ensures.writes refl (codes "\n") refl)
    c.write_all.ensures.writes
