-- What a run over the steps wrote, and how it came to its answer.
use Rattle.std.proofs.Common.{◌≡◌, ℕ, Bool, false, ◌||◌, List, [], ◌∷◌, ◌++◌, take, drop, Option, Some, None, Ok, Err}
use Rattle.std.proofs.Common.{refl, sym, ◌∙◌, ap, subst, append_assoc}
use Rattle.std.specs.Prelude.{◌≢◌, Result, IsTrue, IfNone, IfOk}
use Rattle.std.proofs.lemmas.List.{append-nil}
use Rattle.cnf_base.specs.declared.step.Step.{Step}
use Rattle.host_io.specs.declared.role.Role.{Role}
use Rattle.host_io.specs.declared.role.Role.TheVariants.{ProofIn, ProofOut}
use Rattle.host_io.specs.declared.source.Failed.{Failed}
use Rattle.host_io.specs.Channel.{Channel, Rose, WritesAll}
use Rattle.host_io.specs.Files.{Files}
use Rattle.text_scan.specs.Decides.{Decides-map}
use Rattle.lrat_text.specs.Draft.{lrat_form}
use Rattle.lrat_text.specs.Reader.{Reader, steps_ahead}
use Rattle.lrat_text.specs.Steps.{Steps, next_step}
use Rattle.lrat_rules.specs.declared.outcome.Reason.{Reason}
use Rattle.lrat_rules.specs.State.{State}
use Rattle.lrat_rules.specs.Run.{step_fault, after_step, step_adds_empty}
use Rattle.proof_judging.specs.declared.verdict.Verdict.{Verdict}
use Rattle.proof_judging.specs.declared.verdict.CheckError.TheVariants.{ReadFault as CheckFault, TooLong as LongText}
use Rattle.proof_judging.specs.declared.verdict.CheckError.TheVariants.{OutOfMemory as CheckMemory}
use Rattle.proof_judging.specs.Rules.{AreApart, Judges}
use Rattle.proof_judging.specs.Run.{Exit, IsNext, Leads, Leaves, Runs, answer_at, before_all}
use Rattle.proof_judging.specs.Run.{at_end, at_bad_line, at_limit, at_fault, at_memory, at_step}
use Rattle.proof_judging.specs.Checks.{AnswersBy, Checks}
use Rattle.proof_judging.proofs.Covered.{runs_covered}
use Rattle.lrat_checker.specs.TextVerdict.{lrat_format}
use Rattle.drat_text.specs.declared.step.DratStep.{DratStep}
use Rattle.drat_text.specs.DratText.{drat_text}
use Rattle.drat_proof.specs.declared.error.ConvertError.{ConvertError}
use Rattle.drat_proof.specs.declared.error.ConvertError.TheVariants.{ReadFault, TooLong, OutOfMemory, WriteFault}
use Rattle.drat_proof.specs.Drat.{drat_of_step, drat_of, unless_fault}
use Rattle.drat_proof.specs.Naming.{NamesAhead, named_by, behind_all}
use Rattle.drat_proof.specs.TwoRoles.{KeptButTwo, OnlyWrites, added}
use Rattle.drat_proof.specs.Conversion.{HasVerdict, HasWritten, AreFirstLines, ConvertsSteps, Takes, convert_error}
use Rattle.drat_proof.specs.Converting.{Work, converting_rules}
use Rattle.drat_proof.proofs.Roles.{OnlyWrites-then, kept_both, kept_first, kept_none, kept_second, only_writes, same_writes, writes_none}
use Rattle.drat_proof.proofs.Added.{added_is, appended, front_more, front_of}
use Rattle.drat_proof.proofs.Named.{behind-append, named-append, named_text-append, no_steps}

-- Of one step. It says the same where the state behind it isn't named.
pub takes_on : (tells : Bool) (old new : Channel) (before after : State) (names next : NamesAhead) (step : Step)
    (result : Result (Option Reason) ConvertError) → Takes tells old new before after names next step result
    → Takes tells old new before (after_step before step) names next step result
takes_on tells old new before after names next step (Ok None) takes = (takes.0, refl, takes.2, takes.3)
takes_on tells old new before after names next step (Ok (Some reason)) takes = takes
takes_on tells old new before after names next step (Err OutOfMemory) takes = takes
takes_on tells old new before after names next step (Err WriteFault) takes = takes
takes_on tells old new before after names next step (Err ReadFault) takes = absurd takes
takes_on tells old new before after names next step (Err TooLong) takes = absurd takes

-- and nothing but writes
pub takes_writes : (tells : Bool) (old new : Channel) (before after : State) (names next : NamesAhead) (step : Step)
    (result : Result (Option Reason) ConvertError) → Takes tells old new before after names next step result → OnlyWrites old new
takes_writes tells old new before after names next step (Ok None) takes = only_writes takes.2
takes_writes tells old new before after names next step (Ok (Some reason)) takes = same_writes takes.1
takes_writes tells old new before after names next step (Err OutOfMemory) takes = same_writes takes.1
takes_writes tells old new before after names next step (Err WriteFault) takes = only_writes takes.1.1
takes_writes tells old new before after names next step (Err ReadFault) takes = absurd takes
takes_writes tells old new before after names next step (Err TooLong) takes = absurd takes

-- so it was judged by the rules
pub takes_judges : {Judge Host : Type 0} (state_of : Judge → State) (names_of : Judge → NamesAhead) (channels_of : Host → Role → Channel)
    (files_of : Host → Files) (tells : Bool) (old new : Channel) (before after : State) (names next : NamesAhead) (step : Step)
    (result : Result (Option Reason) ConvertError) → Takes tells old new before after names next step result
    → Judges (converting_rules tells state_of names_of channels_of files_of) before after step result
takes_judges state_of names_of channels_of files_of tells old new before after names next step (Ok None) takes = (takes.0, takes.1)
takes_judges state_of names_of channels_of files_of tells old new before after names next step (Ok (Some reason)) takes = takes.0
takes_judges state_of names_of channels_of files_of tells old new before after names next step (Err OutOfMemory) takes = record {
  no_fault = λ e. cc;
  no_limit = λ e. cc;
  memory = λ e. takes.0;
}
takes_judges state_of names_of channels_of files_of tells old new before after names next step (Err WriteFault) takes = record {
  no_fault = λ e. cc;
  no_limit = λ e. cc;
  memory = λ e. cc;
}
takes_judges state_of names_of channels_of files_of tells old new before after names next step (Err ReadFault) takes = absurd takes
takes_judges state_of names_of channels_of files_of tells old new before after names next step (Err TooLong) takes = absurd takes

-- what holds after each step
pub where_good : {P : Type 0} (result : Result (Option Reason) ConvertError) → P → IfOk result (λ fault. IfNone fault P)
where_good (Ok None) holds = holds
where_good (Ok (Some reason)) holds = tt
where_good (Err error) holds = tt

-- no two wants of a verdict are told alike
pub apart : AreApart convert_error
apart CheckFault CheckFault e = refl
apart CheckFault LongText e = cc
apart CheckFault CheckMemory e = cc
apart LongText CheckFault e = cc
apart LongText LongText e = refl
apart LongText CheckMemory e = cc
apart CheckMemory CheckFault e = cc
apart CheckMemory LongText e = cc
apart CheckMemory CheckMemory e = refl

pub has_verdict : (result : Result Verdict ConvertError) (text : Option Verdict) → AnswersBy convert_error result text
    → HasVerdict result text
has_verdict (Ok verdict) text answers = answers
has_verdict (Err TooLong) text answers = answers refl
has_verdict (Err ReadFault) text answers = tt
has_verdict (Err OutOfMemory) text answers = tt
has_verdict (Err WriteFault) text answers = tt

-- What was written from one place to another, and what the steps that lead there become.
pub record Wrote (tells : Bool) (place last : State) (taken : List (Step × ℕ)) (old now : Work) : Type 0 where
  pub front : List DratStep
  pub text : (rest : Steps) → drat_of place (before_all taken rest) ≡ front ++ drat_of last rest
  pub written : IsTrue tells → (now.channels ProofOut).written ≡ (old.channels ProofOut).written ++ drat_text (named_by old.names front)
  pub named : now.names ≡ behind_all old.names front
  pub unfailed : (now.channels ProofOut).faults ≡ (old.channels ProofOut).faults

module _ {Judge Host : Type 0} (tells : Bool) (state_of : Judge → State) (names_of : Judge → NamesAhead)
    (channels_of : Host → Role → Channel) (files_of : Host → Files) where
  -- reading writes nothing
  read_before : (place last : State) (taken : List (Step × ℕ)) (old read now : Work)
      → (converting_rules tells state_of names_of channels_of files_of).reads old read → Wrote tells place last taken read now
      → Wrote tells place last taken old now
  read_before place last taken old read now reads wrote =
      let out : read.channels ProofOut ≡ old.channels ProofOut = reads.1.others ProofOut refl in
      record {
        front = wrote.front;
        text = wrote.text;
        written = λ t. wrote.written t
            ∙ (λ i. (out i).written ++ drat_text (named_by (reads.0 i) wrote.front));
        named = wrote.named ∙ ap (λ n. behind_all n wrote.front) reads.0;
        unfailed = wrote.unfailed ∙ ap (λ (c : Channel). c.faults) out;
      }

  wrote_nothing : (place last : State) (old now : Work) → place ≡ last → old ≡ now → Wrote tells place last [] old now
  wrote_nothing place last old now there same = record {
    front = [];
    text = λ rest. ap (λ s. drat_of s rest) there;
    written = λ t. sym (ap (λ (w : Work). (w.channels ProofOut).written) same)
        ∙ sym (append-nil (old.channels ProofOut).written)
        ∙ ap (λ l. (old.channels ProofOut).written ++ drat_text l) (sym (no_steps old.names));
    named = sym (ap (λ (w : Work). w.names) same);
    unfailed = sym (ap (λ (w : Work). (w.channels ProofOut).faults) same);
  }

  -- one step before
  step_before : (place last : State) (step : Step) (line : ℕ) (taken : List (Step × ℕ)) (old done now : Work)
      → Takes tells (old.channels ProofOut) (done.channels ProofOut) place (after_step place step) old.names done.names step (Ok None)
      → Wrote tells (after_step place step) last taken done now → Wrote tells place last ((step, line) ∷ taken) old now
  step_before place last step line taken old done now takes wrote =
      let piece : List DratStep = drat_of_step place step in
      record {
        front = piece ++ wrote.front;
        text = λ rest. ap (λ f. unless_fault f (piece ++ drat_of (after_step place step) (before_all taken rest))) takes.0
            ∙ ap (λ (l : List DratStep). piece ++ l) (wrote.text rest)
            ∙ sym (append_assoc piece wrote.front (drat_of last rest));
        written = λ t. wrote.written t
            ∙ (λ i. takes.2.done t refl i ++ drat_text (named_by (takes.3 i) wrote.front))
            ∙ append_assoc (old.channels ProofOut).written (drat_text (named_by old.names piece))
            (drat_text (named_by (behind_all old.names piece) wrote.front))
            ∙ ap (λ (l : List ℕ). (old.channels ProofOut).written ++ l) (sym (named_text-append old.names piece wrote.front));
        named = wrote.named ∙ ap (λ n. behind_all n wrote.front) takes.3 ∙ sym (behind-append old.names piece wrote.front);
        unfailed = wrote.unfailed ∙ takes.2.faults.unfailed refl;
      }

  leads_wrote : (taken : List (Step × ℕ)) (place last : State) (work now : Work) (had has : Bool)
      → Leads (converting_rules tells state_of names_of channels_of files_of) place work had taken last now has
      → Wrote tells place last taken work now
  leads_wrote [] place last work now had has leads = wrote_nothing place last work now leads.0 leads.1
  leads_wrote ((step, line) ∷ taken) place last work now had has leads =
      read_before place last ((step, line) ∷ taken) work leads.0 now leads.2
      (step_before place last step line taken leads.0 leads.1 now leads.3.1
      (leads_wrote taken (after_step place step) last leads.1 now (had || step_adds_empty step) has leads.5))

  -- behind one more call of the reader
  read_after : (place last : State) (taken : List (Step × ℕ)) (old done read : Work)
      → (converting_rules tells state_of names_of channels_of files_of).reads done read → Wrote tells place last taken old done
      → Wrote tells place last taken old read
  read_after place last taken old done read reads wrote =
      let out : read.channels ProofOut ≡ done.channels ProofOut = reads.1.others ProofOut refl in
      record {
        front = wrote.front;
        text = wrote.text;
        written = λ t. ap (λ (c : Channel). c.written) out ∙ wrote.written t;
        named = reads.0 ∙ wrote.named;
        unfailed = ap (λ (c : Channel). c.faults) out ∙ wrote.unfailed;
      }

  module _ (place last : State) (taken : List (Step × ℕ)) (old read new : Work) (has : Bool)
      (wrote : Wrote tells place last taken old read) where
    abbrev out_old : Channel
    out_old = old.channels ProofOut

    abbrev out_new : Channel
    out_new = new.channels ProofOut

    -- what comes of nothing more
    abbrev Stays : Type 0
    Stays = (out_new ≡ read.channels ProofOut)

    written_of : Stays → IsTrue tells → out_new.written ≡ out_old.written ++ drat_text (named_by old.names wrote.front)
    written_of stays t = ap (λ (c : Channel). c.written) stays ∙ wrote.written t

    all_written : Stays → IsTrue tells → (steps rest : Steps) → steps ≡ before_all taken rest → drat_of last rest ≡ []
        → added out_old out_new ≡ drat_text (named_by old.names (drat_of place steps))
    all_written stays t steps rest parts none =
        added_is out_old out_new (drat_text (named_by old.names wrote.front)) (written_of stays t)
        ∙ ap (λ (l : List DratStep). drat_text (named_by old.names l))
        (sym (ap (drat_of place) parts ∙ wrote.text rest ∙ ap (λ (l : List DratStep). wrote.front ++ l) none ∙ append-nil wrote.front))

    whole_lines : Stays → IsTrue tells → (steps rest : Steps) → steps ≡ before_all taken rest
        → AreFirstLines (added out_old out_new) (named_by old.names (drat_of place steps))
    whole_lines stays t steps rest parts = record {
      front = named_by old.names wrote.front;
      rest = named_by (behind_all old.names wrote.front) (drat_of last rest);
      parts = ap (named_by old.names) (ap (drat_of place) parts ∙ wrote.text rest)
          ∙ named-append old.names wrote.front (drat_of last rest);
      lines = added_is out_old out_new (drat_text (named_by old.names wrote.front)) (written_of stays t);
    }

    bad_ahead : (step : Step) (line : ℕ) (reason : Reason) (behind rest : Steps) → rest ≡ next_step step line behind
        → step_fault last step ≡ Some reason → drat_of last rest ≡ []
    bad_ahead step line reason behind rest is bad =
        ap (drat_of last) is ∙ ap (λ f. unless_fault f (drat_of_step last step ++ drat_of (after_step last step) behind)) bad

    -- the front of a step that was cut off
    module _ (step : Step) (failed : Failed) (good : step_fault last step ≡ None)
        (writes : WritesAll {T = Unit {0}} tells (read.channels ProofOut) out_new (drat_text (named_by read.names (drat_of_step last step)))
        (Err failed)) where
      abbrev piece : List DratStep
      piece = named_by read.names (drat_of_step last step)

      abbrev lines : List DratStep
      lines = named_by old.names wrote.front

      cut_text : (t : IsTrue tells) → out_new.written ≡ out_old.written ++ (drat_text lines ++ take (writes.failed t refl).0
          (drat_text piece))
      cut_text t = front_more out_old.written (read.channels ProofOut).written out_new.written (writes.failed t refl).0 lines
          (drat_text piece) (wrote.written t) (writes.failed t refl).1

      cut_off : (t : IsTrue tells) (line : ℕ) (steps behind rest : Steps) → steps ≡ before_all taken rest
          → rest ≡ next_step step line behind
          → (more : List ℕ) × (drat_text (named_by old.names (drat_of place steps)) ≡ added out_old out_new ++ more)
      cut_off t line steps behind rest parts is =
          let later : List DratStep = drat_of (after_step last step) behind in
          let more_steps : List DratStep = named_by (behind_all read.names (drat_of_step last step)) later in
          let whole : named_by old.names (drat_of place steps) ≡ lines ++ (piece ++ more_steps) =
          ap (named_by old.names) (ap (drat_of place) parts ∙ wrote.text rest
          ∙ ap (λ (l : List DratStep). wrote.front ++ l)
          (ap (drat_of last) is ∙ ap (λ f. unless_fault f (drat_of_step last step ++ later)) good))
          ∙ named-append old.names wrote.front (drat_of_step last step ++ later)
          ∙ ap (λ (n : NamesAhead). lines ++ named_by n (drat_of_step last step ++ later)) (sym wrote.named)
          ∙ ap (λ (l : List DratStep). lines ++ l) (named-append read.names (drat_of_step last step) later) in (
            drop (writes.failed t refl).0 (drat_text piece) ++ drat_text more_steps,
            front_of (writes.failed t refl).0 lines piece more_steps _ _ whole
                (added_is out_old out_new (drat_text lines ++ take (writes.failed t refl).0 (drat_text piece)) (cut_text t)),
          )

    -- what each way to end wrote
    exit_written : (t : IsTrue tells) (exit : Exit Step ConvertError) (steps rest : Steps)
        → Leaves (converting_rules tells state_of names_of channels_of files_of) last read new has exit → steps ≡ before_all taken rest
        → IsNext exit rest
        → HasWritten (answer_at convert_error has exit) (added out_old out_new) (named_by old.names (drat_of place steps))
    exit_written t (at_end line) steps rest leaves parts next =
        all_written (ap (λ (w : Work). w.channels ProofOut) (sym leaves)) t steps rest parts (ap (drat_of last) next)
    exit_written t (at_bad_line line) steps rest leaves parts next =
        all_written (ap (λ (w : Work). w.channels ProofOut) (sym leaves)) t steps rest parts (ap (drat_of last) next)
    exit_written t at_limit steps rest leaves parts next =
        all_written (ap (λ (w : Work). w.channels ProofOut) (sym leaves)) t steps rest parts (ap (drat_of last) next)
    exit_written t at_fault steps rest leaves parts next =
        whole_lines (ap (λ (w : Work). w.channels ProofOut) (sym leaves)) t steps rest parts
    exit_written t at_memory steps rest leaves parts next =
        whole_lines (ap (λ (w : Work). w.channels ProofOut) (sym leaves)) t steps rest parts
    exit_written t (at_step step line (Ok reason)) steps rest leaves parts next =
        all_written leaves.1.1 t steps rest parts (bad_ahead step line reason next.0 rest next.1 leaves.1.0)
    exit_written t (at_step step line (Err OutOfMemory)) steps rest leaves parts next = whole_lines leaves.1.1 t steps rest parts
    exit_written t (at_step step line (Err WriteFault)) steps rest leaves parts next =
        cut_off step leaves.1.1.0 leaves.1.0 leaves.1.1.1 t line steps next.0 rest parts next.1
    exit_written t (at_step step line (Err ReadFault)) steps rest leaves parts next = absurd leaves.1
    exit_written t (at_step step line (Err TooLong)) steps rest leaves parts next = absurd leaves.1

    -- and what it tells of the sink
    record Sinks (answer : Result Verdict ConvertError) : Type 0 where
      appended : IsTrue tells → out_new.written ≡ out_old.written ++ added out_old out_new
      fault : answer ≡ Err WriteFault → Rose out_old.faults out_new.faults
      unfailed : answer ≢ Err WriteFault → out_new.faults ≡ out_old.faults

    sinks_whole : (answer : Result Verdict ConvertError) → Stays → answer ≢ Err WriteFault → Sinks answer
    sinks_whole answer stays other = record {
      appended = λ t. appended out_old out_new (drat_text (named_by old.names wrote.front)) (written_of stays t);
      fault = λ e. absurd (other e);
      unfailed = λ differs. ap (λ (c : Channel). c.faults) stays ∙ wrote.unfailed;
    }

    exit_sinks : (exit : Exit Step ConvertError) → Leaves
        (converting_rules tells state_of names_of channels_of files_of) last read new has exit
        → Sinks (answer_at convert_error has exit)
    exit_sinks (at_end line) leaves = sinks_whole _ (ap (λ (w : Work). w.channels ProofOut) (sym leaves)) (λ e. cc)
    exit_sinks (at_bad_line line) leaves = sinks_whole _ (ap (λ (w : Work). w.channels ProofOut) (sym leaves)) (λ e. cc)
    exit_sinks at_limit leaves = sinks_whole _ (ap (λ (w : Work). w.channels ProofOut) (sym leaves)) (λ e. cc)
    exit_sinks at_fault leaves = sinks_whole _ (ap (λ (w : Work). w.channels ProofOut) (sym leaves)) (λ e. cc)
    exit_sinks at_memory leaves = sinks_whole _ (ap (λ (w : Work). w.channels ProofOut) (sym leaves)) (λ e. cc)
    exit_sinks (at_step step line (Ok reason)) leaves = sinks_whole _ leaves.1.1 (λ e. cc)
    exit_sinks (at_step step line (Err OutOfMemory)) leaves = sinks_whole _ leaves.1.1 (λ e. cc)
    exit_sinks (at_step step line (Err WriteFault)) leaves =
        let writes = leaves.1.1.1 in
        record {
          appended = λ t. appended out_old out_new _ (cut_text step leaves.1.1.0 leaves.1.0 writes t);
          fault = λ e. subst (λ (n : ℕ). Rose n out_new.faults) wrote.unfailed (writes.faults.cause refl);
          unfailed = λ differs. absurd (differs refl);
        }
    exit_sinks (at_step step line (Err ReadFault)) leaves = absurd leaves.1
    exit_sinks (at_step step line (Err TooLong)) leaves = absurd leaves.1

  pub runs_converts : (in_old in_new : Channel) (state : State) (old new : Work) (reader : Reader) (result : Result Verdict ConvertError)
      → Runs lrat_form tells (converting_rules tells state_of names_of channels_of files_of) in_old in_new state old new reader result
      → Checks lrat_form tells lrat_format convert_error in_old in_new state reader result
      → ConvertsSteps tells in_old in_new (old.channels ProofOut) (new.channels ProofOut) state old.names reader result
  runs_converts in_old in_new state old new reader result runs checks =
      let wrote = read_after state runs.last runs.taken old runs.done runs.read runs.reads
      (leads_wrote runs.taken state runs.last old runs.done false runs.has_empty runs.leads) in
      let sinks = subst (λ r. Sinks state runs.last runs.taken old runs.read new runs.has_empty wrote r) (sym runs.answer)
      (exit_sinks state runs.last runs.taken old runs.read new runs.has_empty wrote runs.exit runs.leaves) in
      record {
        decides = λ t. Decides-map _ (checks.decides t) (λ bytes more answers. has_verdict result _ answers);
        written = λ t. Decides-map _ (runs.ahead t) (λ bytes more ahead.
            subst (λ r. HasWritten r (added (old.channels ProofOut) (new.channels ProofOut))
            (named_by old.names (drat_of state (steps_ahead reader bytes)))) (sym runs.answer)
            (exit_written state runs.last runs.taken old runs.read new runs.has_empty wrote t runs.exit
            (steps_ahead reader bytes) ahead.rest
            runs.leaves ahead.parts ahead.next));
        appended = sinks.appended;
        undecided = checks.undecided;
        wants = checks.wants;
        read_fault = checks.fault;
        write_fault = sinks.fault;
        unfailed_reads = checks.unfailed;
        unfailed_writes = sinks.unfailed;
        reads = checks.reads;
        writes = runs_covered (converting_rules tells state_of names_of channels_of files_of)
            (λ before after. OnlyWrites (before.channels ProofOut) (after.channels ProofOut)) (λ work. writes_none (work.channels ProofOut))
            (λ before now after first second. OnlyWrites-then first second)
            (λ before after reads. same_writes (reads.1.others ProofOut refl))
            (λ at before after has step answer does. takes_writes tells _ _ at _ _ _ step answer does.1)
            lrat_form tells in_old in_new state old new reader result runs;
      }

  -- the other roles and files stay
  pub runs_kept : (in_old in_new : Channel) (state : State) (old new : Work) (reader : Reader) (result : Result Verdict ConvertError)
      → Runs lrat_form tells (converting_rules tells state_of names_of channels_of files_of) in_old in_new state old new reader result
      → KeptButTwo ProofIn ProofOut (old.channels ProofOut).name old.channels new.channels old.files new.files
  runs_kept in_old in_new state old new reader result runs =
      (runs_covered (converting_rules tells state_of names_of channels_of files_of)
      (λ before after. KeptButTwo ProofIn ProofOut (before.channels ProofOut).name before.channels after.channels before.files after.files
      × ((after.channels ProofOut).name ≡ (before.channels ProofOut).name)) (λ work. (kept_none work.channels work.files, refl))
      (λ before now after first second. (kept_both first.0 second.0 first.1, second.1 ∙ first.1))
      (λ before after reads. (kept_first reads.1, ap (λ (c : Channel). c.name) (reads.1.others ProofOut refl)))
      (λ at before after has step answer does. (kept_second does.0, (takes_writes tells _ _ at _ _ _ step answer does.1).name))
      lrat_form tells in_old in_new state old new reader result runs).0
