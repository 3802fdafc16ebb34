-- What is ahead of a new reader are the steps of the text.
use Rattle.std.proofs.Common.{◌≡◌, ℕ, List, ◌++◌, false, length, map, Option, Some, Err, rules, sym, ◌∙◌, ap, subst, inl, inr}
use Rattle.host_io.specs.declared.role.Role.TheVariants.{ProofIn, ProofOut}
use Rattle.text_scan.specs.Decides.{Decides-map, Decides-none}
use Rattle.lrat_text.specs.LineSteps.{StepsOf}
use Rattle.lrat_text.specs.LineReader.{steps_ahead, so_far}
use Rattle.lrat_text.specs.LineWants.{wants_ahead}
use Rattle.lrat_rules.specs.State.{start}
use Rattle.proof_judging.specs.declared.verdict.Verdict.{Verdict}
use Rattle.drat_text.specs.declared.step.DratStep.{DratStep}
use Rattle.drat_text.specs.Draft.{drat_form}
use Rattle.drat_rules.specs.Clauses.{equality_of}
use Rattle.drat_proof.specs.Conversion.{HasVerdict}
use Rattle.drat_proof.specs.TwoRoles.{added}
use Rattle.drat_proof.specs.declared.error.ConvertError.TheVariants.{OutOfMemory}
use Rattle.drat_checker.specs.DratVerdict.{drat_steps_verdict_by, drat_text_verdict_by, drat_verdict_so_far_by}
use Rattle.drat_checker.specs.Memory.{drat_reading_may_want_memory, drat_check_may_want_memory_by}
use Rattle.lrat_from_drat.specs.Lrat.{Outline, beginning, lrat_of, lrat_steps}
use Rattle.lrat_from_drat.specs.Conversion.{HasLines}
use Rattle.lrat_from_drat.proofs.Whole.{no-lines-written, none-written, refutes}
use Rattle.lrat_from_drat.proofs.text.convert.Goals as goal

-- where there was no memory for the formula, nothing was written
pub returns-in_err-judge-clause-written : goal.returns-in_err-judge-clause-written
returns-in_err-judge-clause-written g c =
    let is : c.from_residual.result ≡ Err OutOfMemory = first_of (search rules, cc) in
    λ told. none-written c.from_residual.result (start c.args.formula.now.clauses) (g.H.Host.channel c.args.host.now ProofOut) is

pub returns-in_err-judge-clause-lines : goal.returns-in_err-judge-clause-lines
returns-in_err-judge-clause-lines g c =
    let is : c.from_residual.result ≡ Err OutOfMemory = first_of (search rules, cc) in
    λ told. Decides-none (g.H.Host.channel c.args.host.now ProofIn) _ (λ more.
    no-lines-written c.from_residual.result (lrat_steps (equality_of c.args.deletions) c.args.formula.now.clauses more)
    (g.H.Host.channel c.args.host.now ProofOut) is)

pub returns-clause-decides : goal.returns-clause-decides
returns-clause-decides g c =
    let converts = c.convert_from.ensures.converts c.args.formula.now.clauses c.in_ok-judge.ensures in
    let whole : (bytes : List ℕ) → drat_steps_verdict_by (equality_of c.args.deletions) c.args.formula.now.clauses false
    (steps_ahead drat_form c.new-reader.result bytes)
    ≡ drat_text_verdict_by (equality_of c.args.deletions) c.args.formula.now.clauses bytes =
    λ bytes. ap (drat_steps_verdict_by (equality_of c.args.deletions) c.args.formula.now.clauses false)
    (c.new-reader.ensures.steps bytes) in
    λ told. Decides-map _ (converts.decides told) (λ bytes more answers. subst
    (λ (verdict : Option Verdict). HasVerdict c.convert_from.result verdict) (whole bytes) answers)

pub returns-clause-refutes : goal.returns-clause-refutes
returns-clause-refutes g c = λ told is.
    refutes c.steps_text_law.ensures.refutes c.args.formula.now.clauses _ c.convert_from.result is
    ((c.convert_from.ensures.converts c.args.formula.now.clauses c.in_ok-judge.ensures).written told)

pub returns-clause-written : goal.returns-clause-written
returns-clause-written g c = (c.convert_from.ensures.converts c.args.formula.now.clauses c.in_ok-judge.ensures).written

pub returns-clause-lines : goal.returns-clause-lines
returns-clause-lines g c =
    let converts = c.convert_from.ensures.converts c.args.formula.now.clauses c.in_ok-judge.ensures in
    let same = equality_of c.args.deletions in
    let clauses = c.args.formula.now.clauses in
    let whole : (bytes : List ℕ) → beginning clauses ++ lrat_of same (map Some clauses) (steps_ahead drat_form c.new-reader.result bytes)
    ≡ lrat_steps same clauses bytes =
    λ bytes. ap (λ (s : StepsOf DratStep). beginning clauses ++ lrat_of same (map Some clauses) s) (c.new-reader.ensures.steps bytes) in
    λ told. Decides-map _ (converts.lines told) (λ bytes more h. subst
    (λ (l : List Outline). HasLines c.convert_from.result l (added (g.H.Host.channel c.args.host.now ProofOut)
    (g.H.Host.channel c.convert_from.new.host ProofOut))) (whole bytes) h)

pub returns-clause-appended : goal.returns-clause-appended
returns-clause-appended g c = (c.convert_from.ensures.converts c.args.formula.now.clauses c.in_ok-judge.ensures).appended

pub returns-clause-undecided : goal.returns-clause-undecided
returns-clause-undecided g c =
    let converts = c.convert_from.ensures.converts c.args.formula.now.clauses c.in_ok-judge.ensures in
    let whole : (bytes : List ℕ) → drat_steps_verdict_by (equality_of c.args.deletions) c.args.formula.now.clauses false
    (so_far drat_form c.new-reader.result bytes)
    ≡ drat_verdict_so_far_by (equality_of c.args.deletions) c.args.formula.now.clauses bytes =
    λ bytes. ap (drat_steps_verdict_by (equality_of c.args.deletions) c.args.formula.now.clauses false)
    (c.new-reader.ensures.so_far bytes) in
    λ told is. sym (whole _) ∙ converts.undecided told is

pub returns-clause-memory : goal.returns-clause-memory
returns-clause-memory g c =
    let converts = c.convert_from.ensures.converts c.args.formula.now.clauses c.in_ok-judge.ensures in
    let whole : (bytes : List ℕ) (n : ℕ) → drat_reading_may_want_memory (equality_of c.args.deletions) n c.args.formula.now.clauses
    (wants_ahead drat_form c.new-reader.result bytes) ≡ drat_check_may_want_memory_by (equality_of c.args.deletions)
    c.args.formula.now.clauses n bytes =
    λ bytes n. ap (drat_reading_may_want_memory (equality_of c.args.deletions) n c.args.formula.now.clauses)
    (c.new-reader.ensures.wants bytes) in
    λ told is. elim (converts.wants told is) [
      | inl none ↦ inl none
      | inr wants ↦ inr (Decides-map _ wants (λ bytes more h. sym (whole bytes (length more)) ∙ h))
    ]

pub returns-clause-read_fault : goal.returns-clause-read_fault
returns-clause-read_fault g c = (c.convert_from.ensures.converts c.args.formula.now.clauses c.in_ok-judge.ensures).read_fault

pub returns-clause-write_fault : goal.returns-clause-write_fault
returns-clause-write_fault g c = (c.convert_from.ensures.converts c.args.formula.now.clauses c.in_ok-judge.ensures).write_fault

pub returns-clause-read : goal.returns-clause-read
returns-clause-read g c = (c.convert_from.ensures.converts c.args.formula.now.clauses c.in_ok-judge.ensures).unfailed_reads

pub returns-clause-unfailed : goal.returns-clause-unfailed
returns-clause-unfailed g c = (c.convert_from.ensures.converts c.args.formula.now.clauses c.in_ok-judge.ensures).unfailed_writes

pub returns-clause-reads : goal.returns-clause-reads
returns-clause-reads g c = (c.convert_from.ensures.converts c.args.formula.now.clauses c.in_ok-judge.ensures).reads

pub returns-clause-writes : goal.returns-clause-writes
returns-clause-writes g c = (c.convert_from.ensures.converts c.args.formula.now.clauses c.in_ok-judge.ensures).writes
