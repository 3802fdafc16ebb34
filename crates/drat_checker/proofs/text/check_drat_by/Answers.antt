-- The judge has the formula's clauses, and what is ahead of a new reader are the steps of the text.
use Rattle.std.proofs.Common.{◌≡◌, ℕ, ℤ, List, false, length, Option, sym, ◌∙◌, ap, subst, inr}
use Rattle.text_scan.specs.Decides.{Decides-map}
use Rattle.lrat_text.specs.LineReader.{steps_ahead, so_far}
use Rattle.lrat_text.specs.LineSteps.{steps_so_far_by}
use Rattle.lrat_text.specs.LineWants.{wants_ahead, wants_of}
use Rattle.proof_judging.specs.declared.verdict.Verdict.{Verdict}
use Rattle.proof_judging.specs.Verdict.{Answers}
use Rattle.proof_judging.proofs.Plain.{answers_itself, runs_beside}
use Rattle.cnf_base.specs.Limits.{max_bytes}
use Rattle.drat_text.specs.Draft.{drat_form}
use Rattle.drat_text.specs.DratText.{drat_step_of}
use Rattle.drat_text.specs.DratSteps.{drat_steps_in}
use Rattle.drat_rules.specs.Clauses.{equality_of}
use Rattle.drat_checker.specs.DratVerdict.{drat_format, drat_steps_verdict_by, drat_text_verdict_by, drat_verdict_so_far_by}
use Rattle.drat_checker.specs.Memory.{drat_reading_may_want_memory, drat_check_may_want_memory_by, is_addition}
use Rattle.drat_checker.proofs.text.check_drat_by.Goals as goal

pub returns-clause-decides : goal.returns-clause-decides
returns-clause-decides g c =
    let same = equality_of c.args.deletions in
    let whole : (bytes : List ℕ) → drat_steps_verdict_by same c.in_ok-judge.judge false (steps_ahead drat_form c.new-reader.result bytes)
    ≡ drat_text_verdict_by same c.args.formula.now.clauses bytes =
    λ bytes. ap (drat_steps_verdict_by same c.in_ok-judge.judge false) (c.new-reader.ensures.steps bytes)
    ∙ ap (λ (clauses : List (List ℤ)). drat_steps_verdict_by same clauses false (drat_steps_in max_bytes bytes)) c.in_ok-judge.ensures in
    λ told. Decides-map _ (c.judge_steps.ensures.checks.decides told) (λ bytes more answers. subst
    (λ (verdict : Option Verdict). Answers c.judge_steps.result verdict) (whole bytes) (answers_itself _ _ answers))

pub returns-clause-undecided : goal.returns-clause-undecided
returns-clause-undecided g c =
    let same = equality_of c.args.deletions in
    let whole : (bytes : List ℕ) → drat_steps_verdict_by same c.in_ok-judge.judge false (so_far drat_form c.new-reader.result bytes)
    ≡ drat_verdict_so_far_by same c.args.formula.now.clauses bytes =
    λ bytes. ap (drat_steps_verdict_by same c.in_ok-judge.judge false) (c.new-reader.ensures.so_far bytes)
    ∙ ap (λ (clauses : List (List ℤ)). drat_steps_verdict_by same clauses false (steps_so_far_by drat_step_of bytes))
    c.in_ok-judge.ensures in
    λ told is. sym (whole _) ∙ c.judge_steps.ensures.checks.undecided told is

pub returns-clause-memory : goal.returns-clause-memory
returns-clause-memory g c =
    let same = equality_of c.args.deletions in
    let whole : (bytes : List ℕ) (n : ℕ) → drat_reading_may_want_memory same n c.in_ok-judge.judge
    (wants_ahead drat_form c.new-reader.result bytes)
    ≡ drat_check_may_want_memory_by same c.args.formula.now.clauses n bytes =
    λ bytes n. ap (drat_reading_may_want_memory same n c.in_ok-judge.judge) (c.new-reader.ensures.wants bytes)
    ∙ ap (λ (clauses : List (List ℤ)). drat_reading_may_want_memory same n clauses (wants_of drat_form max_bytes bytes))
    c.in_ok-judge.ensures in
    λ told is. inr (Decides-map _ (c.judge_steps.ensures.checks.wants told is)
    (λ bytes more wants. sym (whole bytes (length more)) ∙ wants))

pub returns-clause-fault : goal.returns-clause-fault
returns-clause-fault g c = c.judge_steps.ensures.checks.fault

pub returns-clause-unfailed : goal.returns-clause-unfailed
returns-clause-unfailed g c = c.judge_steps.ensures.checks.unfailed

pub returns-clause-reads : goal.returns-clause-reads
returns-clause-reads g c = c.judge_steps.ensures.checks.reads

pub returns-clause-beside : goal.returns-clause-beside
returns-clause-beside g c =
    runs_beside drat_format (λ place step. is_addition step) _ g.S.Source.beside _ _ _ _ _ _ _ _ _ c.judge_steps.ensures.runs
