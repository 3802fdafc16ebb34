-- What is left to show of `write_count`.
use Rattle.std.proofs.Common.{refl, ap, sym, ◌∙◌, List, ℕ, ◌++◌, ◌≡◌}
use Rattle.std.specs.Prelude.{decimal}
use Rattle.answer_text.proofs.Parts.{start, went_on, ended, failed_within}
use Rattle.answer_text.proofs.status.write_count.Goals as goal

pub returns-in_err-write_all-clause-writes : goal.returns-in_err-write_all-clause-writes
returns-in_err-write_all-clause-writes g c =
    failed_within (start (c.args.words.now ++ decimal c.args.n)) c.in_err-write_all.ensures.writes refl c.from_residual.ensures.0
    (decimal c.args.n) refl

pub returns-clause-writes : goal.returns-clause-writes
returns-clause-writes g c =
    let digits : c.as_bytes.result.now ≡ decimal c.args.n = c.as_bytes.ensures.value ∙ c.format.ensures.text in
    ended (went_on (start (c.args.words.now ++ decimal c.args.n)) c.in_ok-write_all.ensures.writes refl c.as_bytes.result.now
    (ap (λ (l : List ℕ). c.args.words.now ++ l) (sym digits)))
    c.write_all-2.ensures.writes
