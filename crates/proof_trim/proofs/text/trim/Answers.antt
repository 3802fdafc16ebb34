-- By the verdict on the text and what was cut of it.
use Rattle.std.proofs.Common.{◌≡◌, ◌∙◌, ℕ, Some, Ok, Err, length, ap, subst, inl, inr}
use Rattle.text_scan.specs.Decides.{Decides-map}
use Rattle.lrat_text.specs.Steps.{steps}
use Rattle.lrat_rules.specs.State.{start}
use Rattle.proof_judging.specs.declared.verdict.Verdict.TheVariants.{Verified}
use Rattle.proof_judging.specs.declared.verdict.CheckError.TheVariants.{ReadFault, OutOfMemory}
use Rattle.lrat_checker.specs.TextVerdict.{max_bytes, text_verdict}
use Rattle.proof_trim.specs.Trimmed.{additions_of_text, cut_steps, trimmed}
use Rattle.proof_trim.specs.Answer.{AnswersBy}
use Rattle.proof_trim.specs.Core.{core}
use Rattle.proof_trim.proofs.Answered.{decided_with, trims_error, trims_by, wanted_verified, no_fault}
use Rattle.proof_trim.proofs.text.trim.Goals as goal

pub returns-clause-decides : goal.returns-clause-decides
returns-clause-decides g c = λ told. Decides-map _ (c.in-Err.ensures.decides told)
    (λ bytes more answers. trims_error c.in-Err.error (text_verdict c.args.formula.now.clauses bytes)
    (trimmed c.args.formula.now.clauses bytes) (core c.args.formula.now.clauses bytes) (additions_of_text bytes) answers)

pub returns-clause-undecided : goal.returns-clause-undecided
returns-clause-undecided g c = λ told is. let same : c.in-Err.error ≡ ReadFault = cc in c.in-Err.ensures.undecided told (ap Err same)

pub returns-in-Ok-clause-decides : goal.returns-in-Ok-clause-decides
returns-in-Ok-clause-decides g c =
    let clauses = c.args.formula.now.clauses in
    let answers = subst (λ (n : ℕ). AnswersBy n c.cut_text.new.cut c.in-Ok.verdict c.answer_by.result) c.len.ensures
    c.answer_by.ensures in
    λ told. decided_with _ (c.in-Ok.ensures.decides told)
    (λ (is : c.in-Ok.verdict ≡ Verified). c.in-Ok.ensures.cut told (ap Ok is))
    (λ bytes more is cut_is. trims_by c.answer_by.result c.in-Ok.verdict (length clauses) c.cut_text.new.cut
    (text_verdict clauses bytes) (cut_steps (start clauses) (steps max_bytes bytes)) (additions_of_text bytes) is cut_is answers)

pub returns-in-Ok-clause-undecided : goal.returns-in-Ok-clause-undecided
returns-in-Ok-clause-undecided g c = λ told is. absurd (no_fault c.answer_by.result c.in-Ok.verdict c.len.result c.cut_text.new.cut
    c.answer_by.ensures is)

pub returns-in-Ok-clause-fault : goal.returns-in-Ok-clause-fault
returns-in-Ok-clause-fault g c = λ is. absurd (no_fault c.answer_by.result c.in-Ok.verdict c.len.result c.cut_text.new.cut
    c.answer_by.ensures is)

-- memory was wanted to judge the text
pub returns-clause-memory : goal.returns-clause-memory
returns-clause-memory g c = λ told is.
    let same : c.in-Err.error ≡ OutOfMemory = cc in
    elim (c.in-Err.ensures.memory told (ap Err same)) [
      | inl none ↦ inl none
      | inr wants ↦ inr (inl wants)
    ]

-- or to keep what a verified one needs
pub returns-in-Ok-clause-memory : goal.returns-in-Ok-clause-memory
returns-in-Ok-clause-memory g c = λ told is.
    let verified : c.in-Ok.verdict ≡ Verified = wanted_verified c.answer_by.result c.in-Ok.verdict c.len.result c.cut_text.new.cut
    c.answer_by.ensures is in
    inr (inr (Decides-map _ (c.in-Ok.ensures.decides told) (λ bytes more judged. judged ∙ ap Some verified)))
