-- What is ahead of a new reader are the steps of the text.
use Rattle.std.proofs.Common.{◌≡◌, ℕ, List, false, length, Option, sym, ◌∙◌, ap, subst, inr}
use Rattle.text_scan.specs.Decides.{Decides-map}
use Rattle.lrat_text.specs.Reader.{steps_ahead, so_far}
use Rattle.lrat_text.specs.Steps.{steps, steps_so_far}
use Rattle.lrat_text.specs.Wants.{wants_of, wants_ahead}
use Rattle.lrat_rules.specs.State.{State}
use Rattle.lrat_checker.specs.Memory.{reading_may_want_memory, check_may_want_memory}
use Rattle.proof_judging.specs.declared.verdict.Verdict.{Verdict}
use Rattle.proof_judging.specs.Verdict.{Answers}
use Rattle.proof_judging.proofs.Plain.{answers_itself}
use Rattle.lrat_checker.specs.TextVerdict.{max_bytes, steps_verdict, text_verdict, verdict_so_far}
use Rattle.proof_trim.proofs.Ahead.{whole_cut, runs_beside, runs_cut}
use Rattle.proof_trim.proofs.text.cut_text.Goals as goal

pub returns-clause-decides : goal.returns-clause-decides
returns-clause-decides g c =
    let whole : (bytes : List ℕ) → steps_verdict c.in_ok-judge.judge false (steps_ahead c.new-reader.result bytes)
    ≡ text_verdict c.args.formula.now.clauses bytes =
    λ bytes. ap (steps_verdict c.in_ok-judge.judge false) (c.new-reader.ensures.steps bytes)
    ∙ ap (λ (s : State). steps_verdict s false (steps max_bytes bytes)) c.in_ok-judge.ensures in
    λ told. Decides-map _ (c.judge_steps-answer.ensures.checks.decides told) (λ bytes more answers. subst
    (λ (verdict : Option Verdict). Answers c.judge_steps-answer.result verdict) (whole bytes) (answers_itself _ _ answers))

pub returns-clause-cut : goal.returns-clause-cut
returns-clause-cut g c = λ told is. Decides-map _
    (runs_cut _ _ _ _ _ _ _ _ _ _ _ c.judge_steps-answer.ensures.runs c.new-begun.ensures told is)
    (λ bytes more cut_is. cut_is ∙ (λ i. whole_cut (c.in_ok-judge.ensures i) (c.new-reader.ensures.steps bytes i)))

pub returns-clause-undecided : goal.returns-clause-undecided
returns-clause-undecided g c =
    let whole : (bytes : List ℕ) → steps_verdict c.in_ok-judge.judge false (so_far c.new-reader.result bytes)
    ≡ verdict_so_far c.args.formula.now.clauses bytes =
    λ bytes. ap (steps_verdict c.in_ok-judge.judge false) (c.new-reader.ensures.so_far bytes)
    ∙ ap (λ (s : State). steps_verdict s false (steps_so_far bytes)) c.in_ok-judge.ensures in
    λ told is. sym (whole _) ∙ c.judge_steps-answer.ensures.checks.undecided told is

pub returns-clause-memory : goal.returns-clause-memory
returns-clause-memory g c =
    let whole : (bytes : List ℕ) (n : ℕ) → reading_may_want_memory n c.in_ok-judge.judge (wants_ahead c.new-reader.result bytes)
    ≡ check_may_want_memory c.args.formula.now.clauses n bytes =
    λ bytes n. ap (reading_may_want_memory n c.in_ok-judge.judge) (c.new-reader.ensures.wants bytes)
    ∙ ap (λ (s : State). reading_may_want_memory n s (wants_of max_bytes bytes)) c.in_ok-judge.ensures in
    λ told is. inr (Decides-map _ (c.judge_steps-answer.ensures.checks.wants told is)
    (λ bytes more wants. sym (whole bytes (length more)) ∙ wants))

pub returns-clause-fault : goal.returns-clause-fault
returns-clause-fault g c = c.judge_steps-answer.ensures.checks.fault

pub returns-clause-unfailed : goal.returns-clause-unfailed
returns-clause-unfailed g c = c.judge_steps-answer.ensures.checks.unfailed

pub returns-clause-reads : goal.returns-clause-reads
returns-clause-reads g c = c.judge_steps-answer.ensures.checks.reads

pub returns-clause-beside : goal.returns-clause-beside
returns-clause-beside g c = runs_beside _ _ _ _ _ _ _ _ _ _ _ c.judge_steps-answer.ensures.runs
