-- What is ahead of a new reader are the steps of the text.
use Rattle.std.proofs.Common.{◌≡◌, ℕ, Bool, List, true, false, refl, length, Err, rules, sym, ◌∙◌, ap, subst, inr, Option}
use Rattle.cnf_base.specs.Formula.{Formula}
use Rattle.text_scan.specs.Decides.{Decides-map, Decides-none}
use Rattle.lrat_text.specs.Reader.{steps_ahead, so_far}
use Rattle.lrat_text.specs.Steps.{steps, steps_so_far}
use Rattle.lrat_text.specs.Wants.{wants_of, wants_ahead}
use Rattle.lrat_rules.specs.State.{State}
use Rattle.proof_judging.specs.declared.verdict.Verdict.{Verdict}
use Rattle.lrat_checker.specs.TextVerdict.{max_bytes, steps_verdict, text_verdict, verdict_so_far}
use Rattle.lrat_checker.specs.Memory.{reading_may_want_memory, check_may_want_memory}
use Rattle.drat_text.specs.declared.step.DratStep.{DratStep}
use Rattle.host_io.specs.declared.role.Role.TheVariants.{ProofIn, ProofOut}
use Rattle.drat_proof.specs.Drat.{drat_of, drat_steps, named_drat_steps}
use Rattle.drat_proof.specs.Naming.{NamesAhead, names_at_first, names_ahead, named_by}
use Rattle.drat_proof.specs.TwoRoles.{added}
use Rattle.drat_proof.specs.Conversion.{HasVerdict, HasWritten}
use Rattle.drat_proof.specs.declared.error.ConvertError.TheVariants.{OutOfMemory}
use Rattle.drat_proof.proofs.Added.{none_written}
use Rattle.drat_proof.proofs.text.convert.Goals as goal

-- where there was no memory for the formula, nothing was written
pub returns-in_err-judge-clause-written : goal.returns-in_err-judge-clause-written
returns-in_err-judge-clause-written g c =
    let is : c.from_residual.result ≡ Err OutOfMemory = first_of (search rules, cc) in
    λ told. Decides-none (g.H.Host.channel c.args.host.now ProofIn) _ (λ more. none_written c.from_residual.result
    (g.H.Host.channel c.args.host.now ProofOut) (named_drat_steps c.args.fresh c.args.formula.now more) is)

pub returns-clause-decides : goal.returns-clause-decides
returns-clause-decides g c =
    let whole : (bytes : List ℕ) → steps_verdict c.in_ok-judge.judge false (steps_ahead c.new-reader.result bytes)
    ≡ text_verdict c.args.formula.now.clauses bytes =
    λ bytes. ap (steps_verdict c.in_ok-judge.judge false) (c.new-reader.ensures.steps bytes)
    ∙ ap (λ (s : State). steps_verdict s false (steps max_bytes bytes)) c.in_ok-judge.ensures in
    λ told. Decides-map _ (c.convert_steps.ensures.converts.decides told) (λ bytes more answers. subst
    (λ (verdict : Option Verdict). HasVerdict c.convert_steps.result verdict) (whole bytes) answers)

-- the steps of the whole text, by the names at first
by_first_names : (fresh : Bool) (formula : Formula) (bytes : List ℕ)
    → named_by (names_at_first fresh formula.vars) (drat_steps formula.clauses bytes) ≡ named_drat_steps fresh formula bytes
by_first_names false formula bytes = refl
by_first_names true formula bytes = refl

pub returns-clause-written : goal.returns-clause-written
returns-clause-written g c =
    let formula : Formula = c.args.formula.now in
    let names : names_ahead c.new-naming.result ≡ names_at_first c.args.fresh formula.vars =
    c.new-naming.ensures ∙ ap (names_at_first c.args.fresh) c.vars.ensures in
    let whole : (bytes : List ℕ) → named_by (names_ahead c.new-naming.result) (drat_of c.in_ok-judge.judge (steps_ahead c.new-reader.result
    bytes))
    ≡ named_drat_steps c.args.fresh formula bytes =
    λ bytes. ap (λ (n : NamesAhead). named_by n (drat_of c.in_ok-judge.judge (steps_ahead c.new-reader.result bytes))) names
    ∙ ap (λ (l : List DratStep). named_by (names_at_first c.args.fresh formula.vars) l)
    (ap (drat_of c.in_ok-judge.judge) (c.new-reader.ensures.steps bytes)
    ∙ ap (λ (s : State). drat_of s (steps max_bytes bytes)) c.in_ok-judge.ensures)
    ∙ by_first_names c.args.fresh formula bytes in
    λ told. Decides-map _ (c.convert_steps.ensures.converts.written told) (λ bytes more written. subst
    (λ (steps : List DratStep). HasWritten c.convert_steps.result (added (g.H.Host.channel c.args.host.now ProofOut)
    (g.H.Host.channel c.convert_steps.new.host ProofOut)) steps) (whole bytes) written)

pub returns-clause-undecided : goal.returns-clause-undecided
returns-clause-undecided g c =
    let whole : (bytes : List ℕ) → steps_verdict c.in_ok-judge.judge false (so_far c.new-reader.result bytes)
    ≡ verdict_so_far c.args.formula.now.clauses bytes =
    λ bytes. ap (steps_verdict c.in_ok-judge.judge false) (c.new-reader.ensures.so_far bytes)
    ∙ ap (λ (s : State). steps_verdict s false (steps_so_far bytes)) c.in_ok-judge.ensures in
    λ told is. sym (whole _) ∙ c.convert_steps.ensures.converts.undecided told is

pub returns-clause-memory : goal.returns-clause-memory
returns-clause-memory g c =
    let whole : (bytes : List ℕ) (n : ℕ) → reading_may_want_memory n c.in_ok-judge.judge (wants_ahead c.new-reader.result bytes)
    ≡ check_may_want_memory c.args.formula.now.clauses n bytes =
    λ bytes n. ap (reading_may_want_memory n c.in_ok-judge.judge) (c.new-reader.ensures.wants bytes)
    ∙ ap (λ (s : State). reading_may_want_memory n s (wants_of max_bytes bytes)) c.in_ok-judge.ensures in
    λ told is. inr (Decides-map _ (c.convert_steps.ensures.converts.wants told is)
    (λ bytes more wants. sym (whole bytes (length more)) ∙ wants))

pub returns-clause-read : goal.returns-clause-read
returns-clause-read g c = c.convert_steps.ensures.converts.unfailed_reads

pub returns-clause-unfailed : goal.returns-clause-unfailed
returns-clause-unfailed g c = c.convert_steps.ensures.converts.unfailed_writes

pub returns-clause-appended : goal.returns-clause-appended
returns-clause-appended g c = c.convert_steps.ensures.converts.appended

pub returns-clause-read_fault : goal.returns-clause-read_fault
returns-clause-read_fault g c = c.convert_steps.ensures.converts.read_fault

pub returns-clause-write_fault : goal.returns-clause-write_fault
returns-clause-write_fault g c = c.convert_steps.ensures.converts.write_fault

pub returns-clause-reads : goal.returns-clause-reads
returns-clause-reads g c = c.convert_steps.ensures.converts.reads

pub returns-clause-writes : goal.returns-clause-writes
returns-clause-writes g c = c.convert_steps.ensures.converts.writes

pub returns-clause-kept : goal.returns-clause-kept
returns-clause-kept g c = c.convert_steps.ensures.kept
