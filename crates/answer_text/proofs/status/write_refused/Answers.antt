-- What is left to show of `write_refused`.
use Rattle.std.proofs.Common.{◌≡◌, ℕ, List, ◌++◌, refl, sym, ◌∙◌, ap}
use Rattle.std.specs.Prelude.{decimal, codes}
use Rattle.lrat_rules.specs.declared.outcome.Reason.{Reason}
use Rattle.answer_text.specs.Status.{reason_name, refused_text}
use Rattle.answer_text.proofs.Parts.{start, went_on, ended, failed_within}
use Rattle.answer_text.proofs.Words.{refused_lines}
use Rattle.answer_text.proofs.status.write_refused.Goals as goal

-- the text from each of its parts on
abbrev last : List ℕ
last = codes "\ns NOT VERIFIED\n"

abbrev from_name : Reason → List ℕ
from_name reason = reason_name reason ++ last

abbrev from_space : Reason → List ℕ
from_space reason = codes " " ++ from_name reason

abbrev from_line : ℕ → Reason → List ℕ
from_line line reason = decimal line ++ from_space reason

pub returns-in_err-write_all-clause-writes : goal.returns-in_err-write_all-clause-writes
returns-in_err-write_all-clause-writes g c =
    failed_within (start (refused_text c.args.line c.args.reason)) c.in_err-write_all.ensures.writes refl c.from_residual.ensures.0
    (from_line c.args.line c.args.reason) (refused_lines c.args.line (reason_name c.args.reason))

pub returns-in_err-write_all-2-clause-writes : goal.returns-in_err-write_all-2-clause-writes
returns-in_err-write_all-2-clause-writes g c =
    let digits : c.as_bytes.result.now ≡ decimal c.args.line = c.as_bytes.ensures.value ∙ c.format.ensures.text in
    failed_within
    (went_on (start (refused_text c.args.line c.args.reason)) c.in_ok-write_all.ensures.writes refl (from_line c.args.line c.args.reason)
    (refused_lines c.args.line (reason_name c.args.reason)))
    c.in_err-write_all-2.ensures.writes refl c.from_residual-in_err-write_all-2.ensures.0 (from_space c.args.reason)
    (ap (λ (l : List ℕ). l ++ from_space c.args.reason) (sym digits))

pub returns-in_err-write_all-3-clause-writes : goal.returns-in_err-write_all-3-clause-writes
returns-in_err-write_all-3-clause-writes g c =
    let digits : c.as_bytes.result.now ≡ decimal c.args.line = c.as_bytes.ensures.value ∙ c.format.ensures.text in
    failed_within
    (went_on
    (went_on (start (refused_text c.args.line c.args.reason)) c.in_ok-write_all.ensures.writes refl (from_line c.args.line c.args.reason)
    (refused_lines c.args.line (reason_name c.args.reason)))
    c.in_ok-write_all-2.ensures.writes refl (from_space c.args.reason) (ap (λ (l : List ℕ). l ++ from_space c.args.reason) (sym digits)))
    c.in_err-write_all-3.ensures.writes refl c.from_residual-in_err-write_all-3.ensures.0 (from_name c.args.reason) refl

pub returns-in_err-write_all-4-clause-writes : goal.returns-in_err-write_all-4-clause-writes
returns-in_err-write_all-4-clause-writes g c =
    let digits : c.as_bytes.result.now ≡ decimal c.args.line = c.as_bytes.ensures.value ∙ c.format.ensures.text in
    failed_within
    (went_on
    (went_on
    (went_on (start (refused_text c.args.line c.args.reason)) c.in_ok-write_all.ensures.writes refl (from_line c.args.line c.args.reason)
    (refused_lines c.args.line (reason_name c.args.reason)))
    c.in_ok-write_all-2.ensures.writes refl (from_space c.args.reason) (ap (λ (l : List ℕ). l ++ from_space c.args.reason) (sym digits)))
    c.in_ok-write_all-3.ensures.writes refl (from_name c.args.reason) refl)
    c.in_err-write_all-4.ensures.writes refl c.from_residual-in_err-write_all-4.ensures.0 last
    (ap (λ (l : List ℕ). l ++ last) (sym c.reason_name.ensures))

pub returns-clause-writes : goal.returns-clause-writes
returns-clause-writes g c =
    let digits : c.as_bytes.result.now ≡ decimal c.args.line = c.as_bytes.ensures.value ∙ c.format.ensures.text in
    ended
    (went_on
    (went_on
    (went_on
    (went_on (start (refused_text c.args.line c.args.reason)) c.in_ok-write_all.ensures.writes refl (from_line c.args.line c.args.reason)
    (refused_lines c.args.line (reason_name c.args.reason)))
    c.in_ok-write_all-2.ensures.writes refl (from_space c.args.reason) (ap (λ (l : List ℕ). l ++ from_space c.args.reason) (sym digits)))
    c.in_ok-write_all-3.ensures.writes refl (from_name c.args.reason) refl)
    c.in_ok-write_all-4.ensures.writes refl last (ap (λ (l : List ℕ). l ++ last) (sym c.reason_name.ensures)))
    c.write_all-5.ensures.writes
