-- What is promised of a run that took its formula, and trimmed its proof or didn't.
use Rattle.std.proofs.Common.{◌≡◌, ◌≤◌, ℕ, false, List, [], ◌++◌, length, append-nil, refl, sym, ap, ap₂, ◌∙◌, subst, Some, None, Ok}
use Rattle.std.proofs.Common.{Err, IsTrue}
use Rattle.std.proofs.Common.{inl, inr}
use Rattle.std.specs.Prelude.{◌⊎◌, Bool, Option, Result, IsErr, IsOk, ⊤}
use Rattle.cnf_base.specs.Formula.{Formula}
use Rattle.cnf_base.specs.Truth.{AreClausesOf}
use Rattle.dimacs_reader.specs.Cnf.{formula}
use Rattle.host_io.specs.Channel.{Channel, Rose}
use Rattle.host_io.specs.declared.role.Role.TheVariants.{ProofIn, ProofOut, Made, Out}
use Rattle.host_io.specs.declared.source.Failed.{Failed}
use Rattle.answer_text.specs.Status.{trimmed_text}
use Rattle.lrat_rules.specs.Run.{Refutes}
use Rattle.lrat_checker.specs.TextVerdict.{max_bytes, text_verdict}
use Rattle.proof_judging.specs.declared.verdict.Verdict.TheVariants as judgement
use Rattle.proof_judging.specs.declared.verdict.CheckError.{CheckError}
use Rattle.proof_judging.specs.declared.verdict.CheckError.TheVariants.{ReadFault, TooLong, OutOfMemory}
use Rattle.lrat_rules.specs.declared.outcome.Reason.{Reason}
use Rattle.proof_trim.specs.Trimmed.{trim}
use Rattle.proof_trim.specs.declared.text.Trimmed.TheVariants.{Steps, Refused}
use Rattle.command_line.specs.declared.format.ProofFormat.TheVariants.{Lrat}
use Rattle.command_line.specs.Command.{Command, ToConvert, ToTrim, Convert, Trim, command}
use Rattle.solver_cli.specs.declared.status.Status.TheVariants.{WriteFault}
use Rattle.solver_cli.specs.ErrorText.{is_answer}
use Rattle.solver_cli.specs.ExitCode.{status_of_check}
use Rattle.solver_cli.specs.Verdict.{verified_text}
use Rattle.solver_cli.specs.Phases.{WantsProof}
use Rattle.solver_cli.specs.TrimmedProof.{PutsNamed, TrimsProof, TrimsText, WantsTrimming}
use Rattle.solver_cli.specs.Stages.{streams_of, CameToKeep, Keeps, Rejected, Trimmed, Uncored, Unkept, Untrimmed}
use Rattle.solver_cli.specs.Headline.{IsFrontOfCore, IsFrontOfTrimmed, MadeStands, TrimStands, WrittenStands}
use Rattle.solver_cli.specs.Faults.{NamedOutputFailed}
use Rattle.solver_cli.specs.Run.{Run, GivesTrimming, name_given, taken_in, written_in, verdict_text_for, HasFault, OutputFailed, AsksOver}
use Rattle.solver_cli.specs.Run.{IsCored, IsTrimmed}
use Rattle.solver_cli.proofs.Cut.{VerifiedBy, judges_of, verified}
use Rattle.solver_cli.proofs.Facts.{judged_apart, no_answer, same_command}
use Rattle.solver_cli.proofs.Reading.{ok_err}
use Rattle.solver_cli.proofs.CallsFor.{no_call_judged}
use Rattle.solver_cli.proofs.Promised.{Core, due, left_proof, no_text, no_verdict, quiet_output, same_written, short}
use Rattle.solver_cli.proofs.Untaken.{took}
use Rattle.solver_cli.proofs.Accepted.{Accepts, accepts_write}
use Rattle.solver_cli.proofs.VerdictLaws.{Laws}
use Rattle.solver_cli.proofs.Unjudged.{Judging, check_complete, unjudged}
use Rattle.solver_cli.proofs.Verdicts.{judged}

-- what the proof is judged for
abbrev judging : (run : Run) (task : ToTrim) {problem : Formula} → command run.words ≡ Some (Trim task)
    → (IsTrue run.tells → AsksOver run (Trim task) (formula problem)) → AreClausesOf problem.vars problem.clauses
    → MadeStands run → WrittenStands run → Judging run problem
judging run task asked read literals made stands = record {
  asked = Trim task;
  gives = asked;
  file = task.proof;
  named = refl;
  read = read;
  literals = literals;
  made = made;
  stands = stands;
}

no_conversion : {task : ToTrim} {other : ToConvert} → Trim task ≡ Convert other → ⊥
no_conversion e = cc

-- the proof was not judged
pub untrimmed : Laws → (run : Run) (task : ToTrim) → command run.words ≡ Some (Trim task)
    → Untrimmed run.tells (streams_of run.before) (streams_of run.after) run.files task run.status → Core run
untrimmed laws run task asked u = go u.error u.trims u.ends where
  read : IsTrue run.tells → AsksOver run (Trim task) (formula u.problem)
  read = took run (Trim task) task.file u.problem asked refl u.takes

  for_it : Judging run u.problem
  for_it = judging run task asked read u.takes.fits.literals (no_text run u.made) (left_proof run u.proof)

  go : (e : CheckError)
      → TrimsProof run.tells (run.before ProofIn) (run.after ProofIn) run.files task.proof u.problem.clauses (Err e)
      → run.status ≡ status_of_check e → Core run
  go ReadFault trims ends = unjudged laws run for_it u.made u.out ReadFault (judges_of (Err ReadFault) trims (λ e. cc)) ends
  go TooLong trims ends = unjudged laws run for_it u.made u.out TooLong (judges_of (Err TooLong) trims (λ e. cc)) ends
  go OutOfMemory trims ends = short run (Trim task) asked
      (record {
        proof = left_proof run u.proof;
        made = u.made;
        out = u.out;
        makes = λ make. absurd (judged_apart asked refl make.1 refl);
      })
      (inr (inr (inr (inr (inr (inr (inl (record {
        asked = Trim task;
        given = asked;
        file = task.proof;
        named = refl;
        problem = u.problem;
        asks = read;
        wants = λ t. let text = text_of t in (text.bytes, text.stands, wanted text (text.memory refl));
        before_answer = u.out;
      }))))))))
      ends where
        text_of : IsTrue run.tells → TrimsText run.texts task.proof u.problem.clauses (taken_in run ProofIn) (Err OutOfMemory)
        text_of t = elim (trims.read t) [ inl e ↦ cc | inr text ↦ text run.texts (run.fits ProofIn tt task.proof) ]

        wanted : (text : TrimsText run.texts task.proof u.problem.clauses (taken_in run ProofIn) (Err OutOfMemory))
            → WantsTrimming u.problem.clauses text.bytes (taken_in run ProofIn)
            → WantsProof Lrat u.problem.clauses text.bytes (taken_in run ProofIn)
            ⊎ (GivesTrimming run × (text_verdict u.problem.clauses text.bytes ≡ Some judgement.Verified))
        wanted text (inl wants) = inl wants
        wanted text (inr verified) = inr ((task, asked), verified)

-- it is not verified
pub rejected : Laws → (run : Run) (task : ToTrim) → command run.words ≡ Some (Trim task)
    → Rejected run.tells (streams_of run.before) (streams_of run.after) run.files task run.status → Core run
rejected laws run task asked r =
    judged laws run
    (judging run task asked (took run (Trim task) task.file r.problem asked refl r.takes) r.takes.fits.literals
    (no_text run r.made) (left_proof run r.proof))
    (judgement.Refused r.line r.reason) (judges_of (Ok (Refused r.line r.reason)) r.trims (λ e. ok_err e))
    (λ t bytes stands. record {
      converted = λ given. absurd (no_conversion (same_command asked given.1));
      trimmed = λ is. absurd (refused_apart is);
    })
    (λ t bytes stands. refl) r.shows.printed r.shows.puts r.shows.ends where
      refused_apart : {line : ℕ} {reason : Reason} → judgement.Refused line reason ≡ judgement.Verified → ⊥
      refused_apart e = cc

-- what stands in the trimmed proof's file, as a front of the trimmed form
abbrev front_of : (run : Run) (task : ToTrim) {problem : Formula} {lines core : List ℕ} {kept total : ℕ}
    → VerifiedBy run task problem lines core kept total → (rest : List ℕ) → lines ≡ written_in run ProofOut ++ rest
    → IsFrontOfTrimmed run
front_of run task {problem = problem} by rest front = record {
  problem = problem;
  bytes = by.bytes;
  has = by.verdict;
  rest = rest;
  front = sym by.lines_are ∙ front;
}

written_by : (run : Run) (task : ToTrim) → command run.words ≡ Some (Trim task) → TrimStands run → WrittenStands run
written_by run task asked stands = record {
  converted = λ given. absurd (no_conversion (same_command asked given.1));
  trimmed = λ _. stands;
  asked = λ given. absurd (judged_apart asked refl given.1 refl);
  proved = λ _ others _. absurd (others (task, asked));
}

-- what stands in the core's file, as a front of the core
abbrev core_front : (run : Run) (task : ToTrim) {problem : Formula} {lines core : List ℕ} {kept total : ℕ}
    → command run.words ≡ Some (Trim task) → VerifiedBy run task problem lines core kept total → (rest : List ℕ)
    → core ≡ written_in run Made ++ rest → IsFrontOfCore run
core_front run task {problem = problem} asked by rest front = record {
  given = (task, asked);
  problem = problem;
  bytes = by.bytes;
  has = by.verdict;
  rest = rest;
  front = sym by.core_is ∙ front;
}

core_stands : (run : Run) (task : ToTrim) {problem : Formula} {lines core : List ℕ} {kept total : ℕ}
    → command run.words ≡ Some (Trim task) → (IsTrue run.tells → VerifiedBy run task problem lines core kept total)
    → (named : Option (List ℕ)) {answer : Result ⊤ Failed}
    → PutsNamed run.tells (run.before Made) (run.after Made) named core answer → MadeStands run
core_stands run task asked by None puts = no_text run (puts.unasked refl).0
core_stands run task asked by (Some file) puts = λ t.
    let front = (puts.asked file refl).front t in
    inr (inr (inr (core_front run task asked (by t) front.0 front.1)))

-- Its trimmed form or its core was not written.
short_of : (run : Run) (task : ToTrim) {problem : Formula} {lines core : List ℕ} {kept total : ℕ} → command run.words ≡ Some (Trim task)
    → (IsTrue run.tells → AsksOver run (Trim task) (formula problem)) → AreClausesOf problem.vars problem.clauses
    → (IsTrue run.tells → VerifiedBy run task problem lines core kept total) → MadeStands run → TrimStands run → OutputFailed run
    → NamedOutputFailed run → run.after Out ≡ run.before Out → run.status ≡ WriteFault → Core run
short_of run task {problem = problem} asked read literals by made kept_steps failed named same ends =
    let unanswered : is_answer run.status ≡ false = ap is_answer ends in
    let accepts : Accepts run.status = accepts_write run.status ends in
    let stands : WrittenStands run = written_by run task asked kept_steps in
    record {
      unsatisfiable = λ e. absurd (no_answer unanswered refl e);
      satisfiable = λ e. absurd (no_answer unanswered refl e);
      undecided = λ why e. absurd (no_answer unanswered refl e);
      answered = λ e. absurd (no_answer unanswered refl e);
      verdict = no_verdict run unanswered;
      made = λ e. absurd (accepts.done e);
      made_file = made;
      refusals = due run ends tt;
      faults = λ quiet. record {
        read = λ e. absurd (accepts.read e);
        named = λ e. absurd (accepts.read e);
        undecided = λ e. absurd (accepts.read e);
        quiet = quiet;
        write = λ e. failed;
        created = λ e. named;
        accepted = λ e. inr ((Trim task, asked), λ t. inr (inl (problem, (by t).bytes, judgement.Verified, (by t).verdict)));
      };
      output = quiet_output run unanswered accepts.help (same_written same);
      proof = stands;
      complete = check_complete run (judging run task asked read literals made stands)
          (λ t status calls _. no_call_judged run problem (by t).bytes judgement.Verified (by t).verdict status calls)
          (λ other text verdict has t unharmed. absurd (unharmed.1 failed));
    }

-- its trimmed form was not written
unkept : (run : Run) (task : ToTrim) {problem : Formula} {lines core : List ℕ} {kept total : ℕ} → command run.words ≡ Some (Trim task)
    → (IsTrue run.tells → AsksOver run (Trim task) (formula problem)) → AreClausesOf problem.vars problem.clauses
    → (IsTrue run.tells → VerifiedBy run task problem lines core kept total)
    → Unkept run.tells (run.before ProofOut) (run.after ProofOut) (run.before Made) (run.after Made) (run.before Out) (run.after Out)
    task.out lines run.status
    → Core run
unkept run task asked read literals by u =
    let fault : HasFault run ProofOut = u.puts.fault refl in
    short_of run task asked read literals by (no_text run u.unmade)
    (record {
      so_far = λ t. let front = u.puts.front t in inr (front_of run task (by t) front.0 front.1);
      whole = λ differs. absurd (differs u.ends);
    })
    (ProofOut, inl tt, fault) (inr (ProofOut, tt, fault, Trim task, task.out, asked, refl)) u.same u.ends

-- what stands of a trimmed form that was written
written_whole : (run : Run) (task : ToTrim) {problem : Formula} {lines core : List ℕ} {kept total : ℕ}
    → (IsTrue run.tells → VerifiedBy run task problem lines core kept total) → (IsTrue run.tells → written_in run ProofOut ≡ lines)
    → TrimStands run
written_whole run task by all = record {
  so_far = λ t. inr (front_of run task (by t) [] (sym (all t) ∙ sym (append-nil (written_in run ProofOut))));
  whole = λ _ t. inr (front_of run task (by t) [] (sym (all t) ∙ sym (append-nil (written_in run ProofOut))), refl);
}

not_done : (answer : Result ⊤ Failed) → IsErr answer → IsOk answer → ⊥
not_done (Ok x) failed done = cc
not_done (Err e) failed done = cc

-- a call on the core's file failed, which was named
core_fails : {tells : Bool} {old new : Channel} {core : List ℕ} {error : Failed} (named : Option (List ℕ))
    → PutsNamed tells old new named core (Err error) → Rose old.faults new.faults × (file : List ℕ) × (named ≡ Some file)
core_fails {error = error} None puts = absurd (not_done (Err error) refl (puts.unasked refl).1)
core_fails (Some file) puts = ((puts.asked file refl).fault refl, file, refl)

-- its core was not written
uncored : (run : Run) (task : ToTrim) {problem : Formula} {lines core : List ℕ} {kept total : ℕ} → command run.words ≡ Some (Trim task)
    → (IsTrue run.tells → AsksOver run (Trim task) (formula problem)) → AreClausesOf problem.vars problem.clauses
    → (IsTrue run.tells → VerifiedBy run task problem lines core kept total)
    → Uncored run.tells (run.before ProofOut) (run.after ProofOut) (run.before Made) (run.after Made) (run.before Out) (run.after Out)
    task.out lines task.core core run.status
    → Core run
uncored run task asked read literals by u =
    let fails = core_fails task.core u.cored in
    short_of run task asked read literals by (core_stands run task asked by task.core u.cored)
    (written_whole run task by (λ t. u.puts.done t u.done)) (Made, inl tt, fails.0)
    (inr (Made, tt, fails.0, Trim task, fails.1, asked, fails.2)) u.same u.ends

-- it was written
keeps : Laws → (run : Run) (task : ToTrim) {problem : Formula} {lines core : List ℕ} {kept total : ℕ}
    → command run.words ≡ Some (Trim task) → (IsTrue run.tells → AsksOver run (Trim task) (formula problem))
    → AreClausesOf problem.vars problem.clauses
    → TrimsProof run.tells (run.before ProofIn) (run.after ProofIn) run.files task.proof problem.clauses (Ok (Steps lines core kept total))
    → Keeps run.tells (run.before ProofOut) (run.after ProofOut) (run.before Made) (run.after Made) (run.before Out) (run.after Out) task.out
    lines task.core core kept total run.status
    → Core run
keeps laws run task {problem = problem} {lines = lines} {core = core} {kept = kept} {total = total} asked read literals trims k =
    judged laws run (judging run task asked read literals (core_stands run task asked by task.core k.cored) stands) judgement.Verified
    (judges_of (Ok (Steps lines core kept total)) trims (λ e. ok_err e))
    (λ t bytes stands. record {
      converted = λ given. absurd (no_conversion (same_command asked given.1));
      trimmed = λ _ given. subst (λ (b : List ℕ). IsTrimmed run problem b) (one_text (by t).stands stands) (whole t);
    })
    (λ t bytes stands. subst (λ (b : List ℕ). trimmed_text kept total ≡ verdict_text_for run problem b judgement.Verified)
    (one_text (by t).stands stands) (says t))
    k.shows.printed k.shows.puts k.shows.ends where
      by : IsTrue run.tells → VerifiedBy run task problem lines core kept total
      by = verified run task problem asked read trims

      one_text : {here there : List ℕ} {text : Option (List ℕ)} → text ≡ Some here → text ≡ Some there → here ≡ there
      one_text e d = inner (sym e ∙ d) where
        inner : {here there : List ℕ} → ◌≡◌ {A = Option (List ℕ)} (Some here) (Some there) → here ≡ there
        inner e = cc

      all : (t : IsTrue run.tells) → written_in run ProofOut ≡ lines
      all t = k.puts.done t k.done

      stands : WrittenStands run
      stands = written_by run task asked (written_whole run task by all)

      core_whole : (t : IsTrue run.tells) (named : Option (List ℕ))
          → PutsNamed run.tells (run.before Made) (run.after Made) named core k.core_answer → (file : List ℕ) → named ≡ Some file
          → IsCored run problem (by t).bytes
      core_whole t named puts file is =
          let put = puts.asked file is in
          record {
            written = put.done t k.core_done ∙ (by t).core_is;
            flushed = put.flushed t k.core_done;
            refuted = laws.trimming.core_refuted problem.clauses (by t).bytes (by t).judged;
            unsatisfiable = laws.trimming.core_unsatisfiable problem.vars problem.clauses (by t).bytes literals (by t).judged;
          }

      says : (t : IsTrue run.tells) → trimmed_text kept total ≡ verdict_text_for run problem (by t).bytes judgement.Verified
      says t = ap₂ trimmed_text (by t).kept_are (by t).total_is
          ∙ sym (ap (λ (c : Option Command). verified_text c problem.clauses (by t).bytes) asked)

      whole : (t : IsTrue run.tells) → IsTrimmed run problem (by t).bytes
      whole t =
          let written : written_in run ProofOut ≡ trim problem.clauses (by t).bytes = all t ∙ (by t).lines_are in
          record {
            written = written;
            flushed = k.puts.flushed t k.done;
            refutes = subst (Refutes problem.clauses) (sym written) (laws.trimming.refutes problem.clauses (by t).bytes (by t).judged);
            named = laws.trimming.named problem.clauses (by t).bytes;
            verified = λ few. subst (λ (b : List ℕ). text_verdict problem.clauses b ≡ Some judgement.Verified) (sym written)
                (laws.trimming.verified problem.clauses (by t).bytes (by t).judged
                (subst (λ (b : List ℕ). length b ≤ max_bytes) written few));
            again = λ few. ap (trim problem.clauses) written
                ∙ laws.trimming.again problem.clauses (by t).bytes (by t).judged
                (subst (λ (b : List ℕ). length b ≤ max_bytes) written few)
                ∙ sym written;
            cored = λ other given file named. core_whole t task.core k.cored file
                (ap (name_given Made) (same_command asked given) ∙ named);
          }

pub trimmed : Laws → (run : Run) (task : ToTrim) → command run.words ≡ Some (Trim task)
    → Trimmed run.tells (streams_of run.before) (streams_of run.after) run.files task run.status → Core run
trimmed laws run task asked c = go c.came where
  read : IsTrue run.tells → AsksOver run (Trim task) (formula c.problem)
  read = took run (Trim task) task.file c.problem asked refl c.takes

  by : IsTrue run.tells → VerifiedBy run task c.problem c.lines c.core c.kept c.total
  by = verified run task c.problem asked read c.trims

  go : CameToKeep run.tells (run.before ProofOut) (run.after ProofOut) (run.before Made) (run.after Made) (run.before Out) (run.after Out)
      task.out c.lines task.core c.core c.kept c.total run.status → Core run
  go (inl u) = unkept run task asked read c.takes.fits.literals by u
  go (inr (inl u)) = uncored run task asked read c.takes.fits.literals by u
  go (inr (inr k)) = keeps laws run task asked read c.takes.fits.literals c.trims k
