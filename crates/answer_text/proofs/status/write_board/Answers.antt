-- What is left to show of `write_board`.
use Rattle.std.proofs.Common.{ℕ, List, ◌++◌, refl}
use Rattle.std.specs.Prelude.{codes}
use Rattle.answer_text.specs.Status.{board_line}
use Rattle.answer_text.proofs.Parts.{start, went_on, ended, failed_within}
use Rattle.answer_text.proofs.Words.{count, board_parts}
use Rattle.answer_text.proofs.status.write_board.Goals as goal

-- the line from each of its parts on
abbrev last : List ℕ
last = codes "\n"

abbrev from_clauses : ℕ → List ℕ
from_clauses clauses = count (codes " clauses ") clauses ++ last

abbrev from_variables : ℕ → ℕ → List ℕ
from_variables variables clauses = count (codes " variables ") variables ++ from_clauses clauses

pub returns-in_err-write_count-clause-writes : goal.returns-in_err-write_count-clause-writes
returns-in_err-write_count-clause-writes g c =
    failed_within (start (board_line c.args.size c.args.variables c.args.clauses)) c.in_err-write_count.ensures.writes refl
    c.from_residual.ensures.0
    (from_variables c.args.variables c.args.clauses) (board_parts c.args.size c.args.variables c.args.clauses)

pub returns-in_err-write_count-2-clause-writes : goal.returns-in_err-write_count-2-clause-writes
returns-in_err-write_count-2-clause-writes g c =
    failed_within
    (went_on (start (board_line c.args.size c.args.variables c.args.clauses)) c.in_ok-write_count.ensures.writes refl
    (from_variables c.args.variables c.args.clauses)
    (board_parts c.args.size c.args.variables c.args.clauses))
    c.in_err-write_count-2.ensures.writes refl c.from_residual-in_err-write_count-2.ensures.0 (from_clauses c.args.clauses) refl

pub returns-in_err-write_count-3-clause-writes : goal.returns-in_err-write_count-3-clause-writes
returns-in_err-write_count-3-clause-writes g c =
    failed_within
    (went_on
    (went_on (start (board_line c.args.size c.args.variables c.args.clauses)) c.in_ok-write_count.ensures.writes refl
    (from_variables c.args.variables c.args.clauses)
    (board_parts c.args.size c.args.variables c.args.clauses))
    c.in_ok-write_count-2.ensures.writes refl (from_clauses c.args.clauses) refl)
    c.in_err-write_count-3.ensures.writes refl c.from_residual-in_err-write_count-3.ensures.0 last refl

pub returns-clause-writes : goal.returns-clause-writes
returns-clause-writes g c =
    ended
    (went_on
    (went_on
    (went_on (start (board_line c.args.size c.args.variables c.args.clauses)) c.in_ok-write_count.ensures.writes refl
    (from_variables c.args.variables c.args.clauses)
    (board_parts c.args.size c.args.variables c.args.clauses))
    c.in_ok-write_count-2.ensures.writes refl (from_clauses c.args.clauses) refl)
    c.in_ok-write_count-3.ensures.writes refl last refl)
    c.write_all.ensures.writes
