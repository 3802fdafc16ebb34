-- What is left to show of `write_limit`.
use Rattle.std.proofs.Common.{◌≡◌, ℕ, List, ◌++◌, refl, sym, ◌∙◌, ap}
use Rattle.std.specs.Prelude.{decimal, codes}
use Rattle.answer_text.proofs.Parts.{start, went_on, ended, failed_within}
use Rattle.answer_text.proofs.status.write_limit.Goals as goal

pub returns-in_err-write_all-clause-writes : goal.returns-in_err-write_all-clause-writes
returns-in_err-write_all-clause-writes g c =
    let more : List ℕ = decimal c.args.n ++ codes " reached\ns UNKNOWN\n" in
    failed_within (start (c.args.limit.now ++ more)) c.in_err-write_all.ensures.writes refl c.from_residual.ensures.0 more refl

pub returns-in_err-write_all-2-clause-writes : goal.returns-in_err-write_all-2-clause-writes
returns-in_err-write_all-2-clause-writes g c =
    let last : List ℕ = codes " reached\ns UNKNOWN\n" in
    let digits : c.as_bytes.result.now ≡ decimal c.args.n = c.as_bytes.ensures.value ∙ c.format.ensures.text in
    failed_within (went_on (start (c.args.limit.now ++ (decimal c.args.n ++ last))) c.in_ok-write_all.ensures.writes refl (decimal c.args.n
    ++ last) refl)
    c.in_err-write_all-2.ensures.writes refl c.from_residual-in_err-write_all-2.ensures.0 last (ap (λ (l : List ℕ). l ++ last) (sym digits))

pub returns-clause-writes : goal.returns-clause-writes
returns-clause-writes g c =
    let last : List ℕ = codes " reached\ns UNKNOWN\n" in
    let digits : c.as_bytes.result.now ≡ decimal c.args.n = c.as_bytes.ensures.value ∙ c.format.ensures.text in
    ended (went_on (went_on (start (c.args.limit.now ++ (decimal c.args.n ++ last))) c.in_ok-write_all.ensures.writes refl (decimal c.args.n
    ++ last) refl)
    c.in_ok-write_all-2.ensures.writes refl last (ap (λ (l : List ℕ). l ++ last) (sym digits))) c.write_all-3.ensures.writes
