-- What is left to show of `write_refused`.
use Rattle.std.proofs.Common.{◌≡◌, ℕ, List, ◌++◌, Ok, refl, sym, ◌∙◌, ap}
use Rattle.std.specs.Prelude.{decimal}
use Rattle.answer_text.proofs.Parts.{start, went_on, ended, failed_within}
use Rattle.solver_cli.proofs.complaint.write_refused.Goals as goal

pub returns-in_err-write_all-clause-writes : goal.returns-in_err-write_all-clause-writes
returns-in_err-write_all-clause-writes g c =
    let text : List ℕ = c.args.text.now in
    let more : List ℕ = decimal c.args.line ++ c.args.kind.now in
    failed_within (start (text ++ more)) c.in_err-write_all.ensures.writes refl c.from_residual.ensures.0 more
    (ap (λ (l : List ℕ). l ++ more) (sym c.as_bytes.ensures.value))

pub returns-in_err-write_all-2-clause-writes : goal.returns-in_err-write_all-2-clause-writes
returns-in_err-write_all-2-clause-writes g c =
    let text : List ℕ = c.args.text.now in
    let last : List ℕ = c.args.kind.now in
    let digits : c.as_bytes-2.result.now ≡ decimal c.args.line = c.as_bytes-2.ensures.value ∙ c.format.ensures.text in
    failed_within (went_on {result = Ok c.in_ok-write_all.field-0}
    (start (text ++ (decimal c.args.line ++ last))) c.in_ok-write_all.ensures.writes refl (decimal c.args.line
    ++ last) (ap (λ (l : List ℕ). l ++ (decimal c.args.line ++ last)) (sym c.as_bytes.ensures.value)))
    c.in_err-write_all-2.ensures.writes refl c.from_residual-in_err-write_all-2.ensures.0 last (ap (λ (l : List ℕ). l ++ last) (sym digits))

pub returns-clause-writes : goal.returns-clause-writes
returns-clause-writes g c =
    let text : List ℕ = c.args.text.now in
    let last : List ℕ = c.args.kind.now in
    let digits : c.as_bytes-2.result.now ≡ decimal c.args.line = c.as_bytes-2.ensures.value ∙ c.format.ensures.text in
    let behind : decimal c.args.line ++ last ≡ c.as_bytes-2.result.now ++ c.as_bytes-3.result.now =
    ap (λ (l : List ℕ). l ++ last) (sym digits) ∙ ap (λ (l : List ℕ). c.as_bytes-2.result.now ++ l) (sym c.as_bytes-3.ensures.value) in
    ended (went_on {result = Ok c.in_ok-write_all-2.field-0} (went_on {result = Ok c.in_ok-write_all.field-0}
    (start (text ++ (decimal c.args.line ++ last))) c.in_ok-write_all.ensures.writes refl (decimal c.args.line
    ++ last) (ap (λ (l : List ℕ). l ++ (decimal c.args.line ++ last)) (sym c.as_bytes.ensures.value)))
    c.in_ok-write_all-2.ensures.writes refl c.as_bytes-3.result.now behind) c.write_all-3.ensures.writes
