-- What is promised of a run that took its formula, and converted its proof or didn't.
use Rattle.std.proofs.Common.{◌≡◌, ℕ, false, List, [], ◌++◌, append-nil, refl, sym, ap, ◌∙◌, subst, Some, Ok, Err, IsTrue, inl, inr}
use Rattle.std.proofs.lemmas.Grind.{flat_map-append}
use Rattle.std.specs.Prelude.{Option, Result, IsErr, ◌≢◌, ◌⊎◌}
use Rattle.cnf_base.specs.Formula.{Formula}
use Rattle.cnf_base.specs.Truth.{AreClausesOf}
use Rattle.dimacs_reader.specs.Cnf.{formula}
use Rattle.host_io.specs.declared.role.Role.TheVariants.{ProofIn, ProofOut, Made}
use Rattle.host_io.specs.Files.{Texts}
use Rattle.text_scan.specs.Decides.{Fits}
use Rattle.proof_judging.specs.declared.verdict.Verdict.{Verdict}
use Rattle.proof_judging.specs.declared.verdict.CheckError.TheVariants as check_error
use Rattle.proof_judging.specs.declared.verdict.Verdict.TheVariants as judgement
use Rattle.lrat_rules.specs.State.{start}
use Rattle.lrat_from_drat.specs.Conversion.{AreSteps, HasSteps}
use Rattle.drat_text.specs.declared.step.DratStep.{DratStep}
use Rattle.drat_text.specs.DratText.{drat_text, line_of_drat}
use Rattle.drat_proof.specs.Conversion.{AreFirstLines}
use Rattle.drat_proof.specs.declared.error.ConvertError.{ConvertError}
use Rattle.drat_proof.specs.declared.error.ConvertError.TheVariants as error
use Rattle.command_line.specs.Command.{ToConvert, ToTrim, Convert, Trim, command}
use Rattle.solver_cli.specs.declared.status.Status.TheVariants.{WriteFault}
use Rattle.solver_cli.specs.ErrorText.{is_answer}
use Rattle.solver_cli.specs.ExitCode.{status_of_convert}
use Rattle.command_line.specs.declared.conversion.Conversion.{Conversion}
use Rattle.command_line.specs.declared.conversion.Conversion.TheVariants.{IntoDrat, IntoLrat}
use Rattle.solver_cli.specs.ConvertedProof.{AreLinesOfConversion, ConvertsText, HasConverted, IsConversion, IsFrontOfConversion}
use Rattle.solver_cli.specs.ConvertedProof.{RewritesProof}
use Rattle.solver_cli.specs.Stages.{streams_of, Converted, Unconverted}
use Rattle.solver_cli.specs.Headline.{WrittenStands}
use Rattle.solver_cli.specs.Run.{written_in}
use Rattle.solver_cli.specs.Run.{Run, GivesConversion, HasFault, OutputFailed, AsksOver, AsksToJudge, IsConverted}
use Rattle.solver_cli.proofs.Facts.{judged_apart, no_answer, same_command}
use Rattle.solver_cli.proofs.Converting.{all_first, no_rest}
use Rattle.solver_cli.proofs.Reading.{ok_err}
use Rattle.solver_cli.proofs.CallsFor.{calls_long}
use Rattle.solver_cli.proofs.Promised.{Core, due, no_text, no_verdict, quiet_output, same_written}
use Rattle.solver_cli.proofs.Untaken.{took}
use Rattle.solver_cli.proofs.Accepted.{Accepts, accepts_write}
use Rattle.solver_cli.proofs.VerdictLaws.{Laws}
use Rattle.solver_cli.proofs.Unjudged.{Judging, check_complete, unjudged}
use Rattle.solver_cli.proofs.Verdicts.{judged, plainly}

-- what a conversion wrote, by its answer

-- good steps are all of them with no rest
with_rest : (problem : Formula) {written : List ℕ} → AreSteps (start problem.clauses) written
    → (rest : List ℕ) × AreSteps (start problem.clauses) (written ++ rest)
with_rest problem {written = written} are = ([], subst (AreSteps (start problem.clauses)) (sym (append-nil written)) are)

-- those of a refutation are good steps
of_steps : (problem : Formula) (verdict : Verdict) {written : List ℕ} → HasSteps (Ok verdict) (start problem.clauses) written
    → AreSteps (start problem.clauses) written
of_steps problem judgement.Verified are = record { then = are.then; steps = are.steps; leads = are.leads; text = are.text }
of_steps problem (judgement.Refused line reason) are = are

front_of_lines : {written : List ℕ} {steps : List DratStep} → AreFirstLines written steps → (rest : List ℕ) ×
    (drat_text steps ≡ written ++ rest)
front_of_lines lines = (
  drat_text lines.rest,
  ap drat_text lines.parts ∙ flat_map-append line_of_drat lines.front lines.rest
      ∙ ap (λ (l : List ℕ). l ++ drat_text lines.rest) (sym lines.lines),
)

all_lines : {written : List ℕ} {steps : List DratStep} → written ≡ drat_text steps → AreFirstLines written steps
all_lines {steps = steps} all = record { front = steps; rest = []; parts = sym (append-nil steps); lines = all }

as_lines : (into : Conversion) (problem : Formula) (result : Result Verdict ConvertError) (bytes written : List ℕ)
    → result ≢ Err error.WriteFault → HasConverted into problem result bytes written → AreLinesOfConversion into problem bytes written
as_lines (IntoDrat fresh) problem (Ok verdict) bytes written differs has = all_lines has
as_lines (IntoDrat fresh) problem (Err error.TooLong) bytes written differs has = all_lines has
as_lines (IntoDrat fresh) problem (Err error.ReadFault) bytes written differs has = has
as_lines (IntoDrat fresh) problem (Err error.OutOfMemory) bytes written differs has = has
as_lines (IntoDrat fresh) problem (Err error.WriteFault) bytes written differs has = absurd (differs refl)
as_lines (IntoLrat any_order) problem (Ok verdict) bytes written differs has = (of_steps problem verdict has.0, all_first has.1)
as_lines (IntoLrat any_order) problem (Err error.TooLong) bytes written differs has = (has.0, all_first has.1)
as_lines (IntoLrat any_order) problem (Err error.ReadFault) bytes written differs has = (has.0, has.1)
as_lines (IntoLrat any_order) problem (Err error.OutOfMemory) bytes written differs has = (has.0, has.1)
as_lines (IntoLrat any_order) problem (Err error.WriteFault) bytes written differs has = absurd (differs refl)

as_front : (into : Conversion) (problem : Formula) (result : Result Verdict ConvertError) (bytes written : List ℕ)
    → HasConverted into problem result bytes written → IsFrontOfConversion into problem bytes written
as_front (IntoDrat fresh) problem (Ok verdict) bytes written has = front_of_lines (all_lines has)
as_front (IntoDrat fresh) problem (Err error.TooLong) bytes written has = front_of_lines (all_lines has)
as_front (IntoDrat fresh) problem (Err error.ReadFault) bytes written has = front_of_lines has
as_front (IntoDrat fresh) problem (Err error.OutOfMemory) bytes written has = front_of_lines has
as_front (IntoDrat fresh) problem (Err error.WriteFault) bytes written has = has
as_front (IntoLrat any_order) problem (Ok verdict) bytes written has =
    (with_rest problem (of_steps problem verdict has.0), no_rest (all_first has.1))
as_front (IntoLrat any_order) problem (Err error.TooLong) bytes written has = (with_rest problem has.0, no_rest (all_first has.1))
as_front (IntoLrat any_order) problem (Err error.ReadFault) bytes written has = (with_rest problem has.0, no_rest has.1)
as_front (IntoLrat any_order) problem (Err error.OutOfMemory) bytes written has = (with_rest problem has.0, no_rest has.1)
as_front (IntoLrat any_order) problem (Err error.WriteFault) bytes written has = (has.0, has.1)

abbrev as_ok : Verdict → Result Verdict ConvertError
as_ok verdict = Ok verdict

as_whole : (into : Conversion) (problem : Formula) (verdict : Verdict) (bytes written : List ℕ)
    → HasConverted into problem (Ok verdict) bytes written → IsConversion into problem bytes verdict written
as_whole (IntoDrat fresh) problem verdict bytes written has = has
as_whole (IntoLrat any_order) problem verdict bytes written has = (
  of_steps problem verdict has.0,
  has.1,
  λ is. has.2 (ap as_ok is),
)

-- what was written of the converted proof stands
stands : (run : Run) (task : ToConvert) {problem : Formula} {result : Result Verdict ConvertError} → command run.words ≡ Some (Convert task)
    → (IsTrue run.tells → AsksOver run (Convert task) (formula problem))
    → RewritesProof run.tells (run.before ProofIn) (run.after ProofIn) (run.before ProofOut)
    (run.after ProofOut) run.files task.proof task.out
    task.into problem result
    → (run.status ≢ WriteFault → result ≢ Err error.WriteFault) → WrittenStands run
stands run task {problem = problem} {result = result} asked read rewrites unharmed = record {
  converted = λ _. record {
    so_far = λ t. elim (rewrites.written t) [
      | inl none ↦ inl none.1
      | inr converts ↦ let text = converts run.texts (run.fits ProofIn tt task.proof) in inr (record {
        task = task;
        given = asked;
        problem = problem;
        bytes = text.bytes;
        asked = to_judge t text.bytes text.stands;
        front = as_front task.into problem result text.bytes (written_in run ProofOut) text.holds;
      })
    ];
    whole = λ differs t. elim (rewrites.written t) [
      | inl none ↦ inl none.1
      | inr converts ↦ let text = converts run.texts (run.fits ProofIn tt task.proof) in inr (record {
        task = task;
        given = asked;
        problem = problem;
        bytes = text.bytes;
        asked = to_judge t text.bytes text.stands;
        lines = as_lines task.into problem result text.bytes (written_in run ProofOut) (unharmed differs) text.holds;
      })
    ];
  };
  trimmed = λ given. absurd (apart (same_command asked given.1));
  asked = λ given. absurd (judged_apart asked refl given.1 refl);
  proved = λ others _ _. absurd (others (task, asked));
} where
  to_judge : IsTrue run.tells → (bytes : List ℕ) → run.texts task.proof ≡ Some bytes → AsksToJudge run problem bytes
  to_judge t bytes stands = record { asked = Convert task; asks = read t; file = task.proof; named = refl; stands = stands }

  apart : {other : ToTrim} → Convert task ≡ Trim other → ⊥
  apart e = cc

-- what the proof is judged for
abbrev judging : (run : Run) (task : ToConvert) {problem : Formula} → command run.words ≡ Some (Convert task)
    → (IsTrue run.tells → AsksOver run (Convert task) (formula problem)) → AreClausesOf problem.vars problem.clauses
    → run.after Made ≡ run.before Made → WrittenStands run → Judging run problem
judging run task asked read literals made stands = record {
  asked = Convert task;
  gives = asked;
  file = task.proof;
  named = refl;
  read = read;
  literals = literals;
  made = no_text run made;
  stands = stands;
}

-- the proof was not converted
pub unconverted : Laws → (run : Run) (task : ToConvert) → command run.words ≡ Some (Convert task)
    → Unconverted run.tells (streams_of run.before) (streams_of run.after) run.files task run.status → Core run
unconverted laws run task asked u = go u.error u.rewrites u.ends where
  read : IsTrue run.tells → AsksOver run (Convert task) (formula u.problem)
  read = took run (Convert task) task.file u.problem asked refl u.takes

  torn : RewritesProof run.tells (run.before ProofIn) (run.after ProofIn) (run.before ProofOut) (run.after ProofOut) run.files task.proof
      task.out task.into u.problem (Err error.WriteFault) → run.status ≡ WriteFault → Core run
  torn rewrites ends =
      let unanswered : is_answer run.status ≡ false = ap is_answer ends in
      let accepts : Accepts run.status = accepts_write run.status ends in
      let fault : HasFault run ProofOut = rewrites.write_fault refl in
      let failed : OutputFailed run = (ProofOut, inl tt, fault) in
      let held : WrittenStands run = stands run task asked read rewrites (λ differs. absurd (differs ends)) in
      record {
        unsatisfiable = λ e. absurd (no_answer unanswered refl e);
        satisfiable = λ e. absurd (no_answer unanswered refl e);
        undecided = λ why e. absurd (no_answer unanswered refl e);
        answered = λ e. absurd (no_answer unanswered refl e);
        verdict = no_verdict run unanswered;
        made = λ e. absurd (accepts.done e);
        made_file = no_text run u.made;
        refusals = due run ends tt;
        faults = λ quiet. record {
          read = λ e. absurd (accepts.read e);
          named = λ e. absurd (accepts.read e);
          undecided = λ e. absurd (accepts.read e);
          quiet = quiet;
          write = λ e. failed;
          created = λ e. inr (ProofOut, tt, fault, Convert task, task.out, asked, refl);
          accepted = λ e. inr ((Convert task, asked), λ t. inr (inr (inr (inr (inl (task, u.problem, read t))))));
        };
        output = quiet_output run unanswered accepts.help (same_written u.out);
        proof = held;
        complete = check_complete run (judging run task asked read u.takes.fits.literals u.made held)
            (λ t status calls unwritten. unwritten (calls_long run task u.problem (read t) status calls) (task, asked) failed)
            (λ other text judged has t unharmed. absurd (unharmed.1 failed));
      }

  go : (e : ConvertError)
      → RewritesProof run.tells (run.before ProofIn) (run.after ProofIn) (run.before ProofOut) (run.after ProofOut) run.files task.proof
      task.out task.into u.problem (Err e) → run.status ≡ status_of_convert e → Core run
  go error.ReadFault rewrites ends = unjudged laws run
      (judging run task asked read u.takes.fits.literals u.made (stands run task asked read rewrites (λ _ e. cc))) u.made u.out
      check_error.ReadFault (rewrites.judges (Err check_error.ReadFault) refl) ends
  go error.TooLong rewrites ends = unjudged laws run
      (judging run task asked read u.takes.fits.literals u.made (stands run task asked read rewrites (λ _ e. cc))) u.made u.out
      check_error.TooLong (rewrites.judges (Err check_error.TooLong) refl) ends
  go error.OutOfMemory rewrites ends = unjudged laws run
      (judging run task asked read u.takes.fits.literals u.made (stands run task asked read rewrites (λ _ e. cc))) u.made u.out
      check_error.OutOfMemory (rewrites.judges (Err check_error.OutOfMemory) refl) ends
  go error.WriteFault rewrites ends = torn rewrites ends

-- the proof was converted
pub converted : Laws → (run : Run) (task : ToConvert) → command run.words ≡ Some (Convert task)
    → Converted run.tells (streams_of run.before) (streams_of run.after) run.files task run.status → Core run
converted laws run task asked c =
    judged laws run (judging run task asked read c.takes.fits.literals c.made (stands run task asked read c.rewrites (λ _ e. ok_err e)))
    c.verdict (c.rewrites.judges (Ok c.verdict) refl)
    (λ t bytes stands. record { converted = λ given. whole t given bytes stands; trimmed = λ _ given. absurd (apart (same_command asked given.1)) })
    (λ t bytes stands. plainly run c.problem bytes asked refl c.verdict) c.printed c.puts c.ends where
      apart : {other : ToTrim} → Convert task ≡ Trim other → ⊥
      apart e = cc

      read : IsTrue run.tells → AsksOver run (Convert task) (formula c.problem)
      read = took run (Convert task) task.file c.problem asked refl c.takes

      one_text : {here there : List ℕ} {text : Option (List ℕ)} → text ≡ Some here → text ≡ Some there → here ≡ there
      one_text e d = inner (sym e ∙ d) where
        inner : {here there : List ℕ} → ◌≡◌ {A = Option (List ℕ)} (Some here) (Some there) → here ≡ there
        inner e = cc

      one_task : {here there : ToConvert} → Convert here ≡ Convert there → here ≡ there
      one_task e = cc

      as_read : {bytes : List ℕ} → (IsErr {E = ConvertError} (Ok c.verdict) × (written_in run ProofOut ≡ []))
          ⊎ ((texts : Texts) → Fits run.files (run.before ProofIn) (run.after ProofIn) task.proof texts
          → ConvertsText task.into c.problem texts task.proof (written_in run ProofOut) (Ok c.verdict))
          → run.texts task.proof ≡ Some bytes → IsConversion task.into c.problem bytes c.verdict (written_in run ProofOut)
      as_read (inl none) stands = absurd (no_error none.0) where
        no_error : IsErr {E = ConvertError} (Ok c.verdict) → ⊥
        no_error e = cc
      as_read (inr converts) stands =
          let text = converts run.texts (run.fits ProofIn tt task.proof) in
          subst (λ (b : List ℕ). IsConversion task.into c.problem b c.verdict (written_in run ProofOut))
          (one_text text.stands stands) (as_whole task.into c.problem c.verdict text.bytes
          (written_in run ProofOut) text.holds)

      whole : IsTrue run.tells → (given : GivesConversion run) → (bytes : List ℕ) → run.texts task.proof ≡ Some bytes
          → IsConverted run given.0.into c.problem bytes c.verdict
      whole t given bytes stands = record {
        written = subst (λ (own : ToConvert). IsConversion own.into c.problem bytes c.verdict (written_in run ProofOut))
            (one_task (same_command asked given.1)) (as_read (c.rewrites.written t) stands);
        flushed = c.rewrites.flushed t refl;
      }
