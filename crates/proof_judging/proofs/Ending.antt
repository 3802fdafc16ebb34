-- How each exit ends a run.
use Rattle.std.proofs.Common.{◌≡◌, ℕ, Bool, true, false, ◌||◌, List, Some, None, Ok, Err, length, refl, sym, ◌∙◌, ap, subst}
use Rattle.std.specs.Prelude.{Result, Option}
use Rattle.host_io.specs.Channel.{Channel, Rose}
use Rattle.text_scan.specs.Decides.{gained, Decides-then, OnlyReads-then, gained-then}
use Rattle.lrat_text.specs.declared.error.StepError.{StepError}
use Rattle.lrat_text.specs.declared.error.StepError.TheVariants.{Syntax as BadLine, ReadFault as FailedRead, TooLong as LongText}
use Rattle.lrat_text.specs.declared.error.StepError.TheVariants.{OutOfMemory as NoMemory}
use Rattle.lrat_text.specs.Form.{Form}
use Rattle.lrat_text.specs.LineReader.{ReaderOf, given, steps_ahead, so_far}
use Rattle.lrat_text.specs.LineSteps.{StepsOf, no_more, overlong, no_step, next_step}
use Rattle.lrat_text.specs.LineWants.{is_near, wants_ahead}
use Rattle.lrat_rules.specs.declared.outcome.Reason.{Reason}
use Rattle.proof_judging.specs.declared.verdict.Verdict.{Verdict}
use Rattle.proof_judging.specs.declared.verdict.Verdict.TheVariants.{Refused}
use Rattle.proof_judging.specs.declared.verdict.CheckError.TheVariants.{ReadFault, TooLong, OutOfMemory}
use Rattle.proof_judging.specs.Verdict.{end_verdict, error_answer, judged, verdict_by}
use Rattle.proof_judging.specs.Rules.{AreApart, IsWhy, Judges, ReadsStep, Rules, told_by}
use Rattle.proof_judging.specs.Run.{Runs, at_end, at_bad_line, at_limit, at_fault, at_memory, at_step, before_all}
use Rattle.proof_judging.specs.Checks.{Checks}
use Rattle.proof_judging.proofs.Running.{SoFar}
use Rattle.proof_judging.proofs.Verdicts.{from_line, line_wants, verdict_behind, wanted_behind}

same_error : {T Error : Type 0} (first second : Error) → ◌≡◌ {A = Result T Error} (Err first) (Err second) → first ≡ second
same_error first second e = cc

no_error : {T Error : Type 0} (value : T) (error : Error) → ◌≡◌ {A = Result T Error} (Ok value) (Err error) → ⊥
no_error value error e = cc

module _ {Draft Judge World Step Error : Type 0} (form : Form Draft Step) (tells : Bool) (rules : Rules Judge World Step Error)
    (apart : AreApart rules.told)
    (in_old in_now in_new : Channel) (place now : rules.Place) (work before_read read : rules.Work) (has_empty : Bool)
    (before middle after : ReaderOf Draft)
    (begun : SoFar form tells rules in_old in_now place now work before_read has_empty before middle)
    (reading : rules.reads before_read read) where
  abbrev Ends : rules.Work → Result Verdict Error → Type 0
  Ends new result = Runs form tells rules in_old in_new place work new before result
      × Checks form tells rules.format rules.told in_old in_new place before result

  -- the verdict where this is next
  behind : (steps rest next : StepsOf Step) → steps ≡ before_all begun.taken rest → rest ≡ next
      → verdict_by rules.format place false steps ≡ verdict_by rules.format now has_empty next
  behind steps rest next first second =
      ap (verdict_by rules.format place false) (first ∙ ap (before_all begun.taken) second)
      ∙ verdict_behind rules begun.taken place now work before_read false has_empty next begun.leads

  pub at_last : ReadsStep form tells in_now in_new middle after (Ok None) → Ends read (Ok (end_verdict has_empty after.line))
  at_last reads = (
    record {
      taken = begun.taken;
      last = now;
      done = before_read;
      has_empty = has_empty;
      exit = at_end after.line;
      leads = begun.leads;
      read = read;
      reads = reading;
      leaves = refl;
      refused = tt;
      answer = refl;
      ahead = λ told. Decides-then _ (begun.ahead told) (reads.gives told)
          (λ bytes between more first second. record {
            rest = no_more after.line;
            parts = first ∙ ap
                (before_all begun.taken) second.0;
            next = refl;
          });
    },
    record {
      decides = λ told. Decides-then _ (begun.ahead told) (reads.gives told)
          (λ bytes between more first second. behind _ _ (no_more after.line) first second.0);
      undecided = λ told e. absurd (no_error _ _ e);
      wants = λ told e. absurd (no_error _ _ e);
      fault = λ e. absurd (no_error _ _ e);
      unfailed = λ other. reads.unfailed (λ e. cc) ∙ begun.unfailed;
      reads = OnlyReads-then begun.reads reads.reads;
    },
  )

  -- a step that was read and not taken
  module _ (step : Step) (at : ℕ) (reads : ReadsStep form tells in_now in_new middle after (Ok (Some (step, at))))
      (near : (more : List ℕ) → is_near (length more) (wants_ahead form after more) ≡ true) (new : rules.Work) where
    pub at_bad_step : (reason : Reason) → rules.does now read new has_empty step (Ok (Some reason))
        → rules.format.fault now step ≡ Some reason
        → Ends new (Ok (Refused at reason))
    at_bad_step reason does bad = (
      record {
        taken = begun.taken;
        last = now;
        done = before_read;
        has_empty = has_empty;
        exit = at_step step at (Ok reason);
        leads = begun.leads;
        read = read;
        reads = reading;
        leaves = does;
        refused = bad;
        answer = refl;
        ahead = λ told. Decides-then _ (begun.ahead told) (reads.gives told)
            (λ bytes between more first second. record {
              rest = steps_ahead form middle between;
              parts = first;
              next = (steps_ahead form after more, second);
            });
      },
      record {
        decides = λ told. Decides-then _ (begun.ahead told) (reads.gives told)
            (λ bytes between more first second. behind _ _ (next_step step at (steps_ahead form after more)) first second
            ∙ ap (λ f. judged f at (verdict_by rules.format (rules.format.after now step) (has_empty || rules.format.adds_empty step)
            (steps_ahead form after more))) bad);
        undecided = λ told e. absurd (no_error _ _ e);
        wants = λ told e. absurd (no_error _ _ e);
        fault = λ e. absurd (no_error _ _ e);
        unfailed = λ other. reads.unfailed (λ e. cc) ∙ begun.unfailed;
        reads = OnlyReads-then begun.reads reads.reads;
      },
    )

    pub at_no_answer : (error : Error) → rules.does now read new has_empty step (Err error) → IsWhy rules.told
        (rules.may_want now step) error → Ends new (Err error)
    at_no_answer error does why = (
      record {
        taken = begun.taken;
        last = now;
        done = before_read;
        has_empty = has_empty;
        exit = at_step step at (Err error);
        leads = begun.leads;
        read = read;
        reads = reading;
        leaves = does;
        refused = why;
        answer = refl;
        ahead = λ told. Decides-then _ (begun.ahead told) (reads.gives told)
            (λ bytes between more first second. record {
              rest = steps_ahead form middle between;
              parts = first;
              next = (steps_ahead form after more, second);
            });
      },
      record {
        decides = λ told. Decides-then _ (begun.ahead told) (reads.gives told) (λ bytes between more first second e. absurd
            (why.no_limit e));
        undecided = λ told e. absurd (why.no_fault (same_error _ _ e));
        wants = λ told e. Decides-then _ (begun.wants told) (reads.spends told)
            (λ bytes between more first second. wanted_behind rules (length more) begun.taken place now work before_read false has_empty _ _
            begun.leads first
            (from_line rules.format (length more) now _ (wants_ahead form after more) step second (rw (near more) refl)));
        fault = λ e. absurd (why.no_fault (same_error _ _ e));
        unfailed = λ other. reads.unfailed (λ e. cc) ∙ begun.unfailed;
        reads = OnlyReads-then begun.reads reads.reads;
      },
    )

  -- an error of the reader: a line that spells no step, or no verdict
  pub at_error : (error : StepError) → ReadsStep form tells in_now in_new middle after (Err error)
      → Ends read (told_by rules.told (error_answer error))
  at_error (BadLine at) reads = (
    record {
      taken = begun.taken;
      last = now;
      done = before_read;
      has_empty = has_empty;
      exit = at_bad_line at;
      leads = begun.leads;
      read = read;
      reads = reading;
      leaves = refl;
      refused = tt;
      answer = refl;
      ahead = λ told. Decides-then _ (begun.ahead told) (reads.gives told)
          (λ bytes between more first second. record {
            rest = no_step at;
            parts = first ∙ ap
                (before_all begun.taken) second.0;
            next = refl;
          });
    },
    record {
      decides = λ told. Decides-then _ (begun.ahead told) (reads.gives told)
          (λ bytes between more first second. behind _ _ (no_step at) first second.0);
      undecided = λ told e. absurd (no_error _ _ e);
      wants = λ told e. absurd (no_error _ _ e);
      fault = λ e. absurd (no_error _ _ e);
      unfailed = λ other. reads.unfailed (λ e. cc) ∙ begun.unfailed;
      reads = OnlyReads-then begun.reads reads.reads;
    },
  )
  at_error LongText reads = (
    record {
      taken = begun.taken;
      last = now;
      done = before_read;
      has_empty = has_empty;
      exit = at_limit;
      leads = begun.leads;
      read = read;
      reads = reading;
      leaves = refl;
      refused = tt;
      answer = refl;
      ahead = λ told. Decides-then _ (begun.ahead told) (reads.gives told)
          (λ bytes between more first second. record {
            rest = overlong;
            parts = first ∙ ap
                (before_all begun.taken) second.0;
            next = refl;
          });
    },
    record {
      decides = λ told. Decides-then _ (begun.ahead told) (reads.gives told)
          (λ bytes between more first second e. behind _ _ overlong first second.0);
      undecided = λ told e. let e : TooLong ≡ ReadFault = apart TooLong ReadFault (same_error _ _ e) in cc;
      wants = λ told e. let e : TooLong ≡ OutOfMemory = apart TooLong OutOfMemory (same_error _ _ e) in cc;
      fault = λ e. let e : TooLong ≡ ReadFault = apart TooLong ReadFault (same_error _ _ e) in cc;
      unfailed = λ other. reads.unfailed (λ e. cc) ∙ begun.unfailed;
      reads = OnlyReads-then begun.reads reads.reads;
    },
  )
  at_error FailedRead reads = (
    record {
      taken = begun.taken;
      last = now;
      done = before_read;
      has_empty = has_empty;
      exit = at_fault;
      leads = begun.leads;
      read = read;
      reads = reading;
      leaves = refl;
      refused = tt;
      answer = refl;
      ahead = λ told. Decides-then _ (begun.ahead told) (reads.gives told)
          (λ bytes between more first second. record { rest = steps_ahead form middle between; parts = first; next = tt });
    },
    record {
      decides = λ told. Decides-then _ (begun.ahead told) (reads.gives told)
          (λ bytes between more first second e. let e : ReadFault ≡ TooLong = apart ReadFault TooLong e in cc);
      undecided = λ told e.
          let none = reads.so_far told in
          behind _ _ overlong (ap (λ l. so_far form before l) (gained-then (begun.ahead told) (reads.gives told))
          ∙ begun.decided told none.0 (gained in_now in_new)) none.1;
      wants = λ told e. let e : ReadFault ≡ OutOfMemory = apart ReadFault OutOfMemory (same_error _ _ e) in cc;
      fault = λ e. subst (λ n. Rose n in_new.faults) begun.unfailed (reads.fault refl);
      unfailed = λ other. absurd (other refl);
      reads = OnlyReads-then begun.reads reads.reads;
    },
  )
  at_error NoMemory reads = (
    record {
      taken = begun.taken;
      last = now;
      done = before_read;
      has_empty = has_empty;
      exit = at_memory;
      leads = begun.leads;
      read = read;
      reads = reading;
      leaves = refl;
      refused = tt;
      answer = refl;
      ahead = λ told. Decides-then _ (begun.ahead told) (reads.gives told)
          (λ bytes between more first second. record { rest = steps_ahead form middle between; parts = first; next = tt });
    },
    record {
      decides = λ told. Decides-then _ (begun.ahead told) (reads.gives told)
          (λ bytes between more first second e. let e : OutOfMemory ≡ TooLong = apart OutOfMemory TooLong e in cc);
      undecided = λ told e. let e : OutOfMemory ≡ ReadFault = apart OutOfMemory ReadFault (same_error _ _ e) in cc;
      wants = λ told e. Decides-then _ (begun.wants told) (reads.spends told)
          (λ bytes between more first second. wanted_behind rules (length more) begun.taken place now work before_read false has_empty _ _
          begun.leads first (line_wants rules.format (length more) now _ second));
      fault = λ e. let e : OutOfMemory ≡ ReadFault = apart OutOfMemory ReadFault (same_error _ _ e) in cc;
      unfailed = λ other. reads.unfailed (λ e. cc) ∙ begun.unfailed;
      reads = OnlyReads-then begun.reads reads.reads;
    },
  )

  -- The same of what the calls of the loop say: the judge reads nothing while it takes a step.
  abbrev EndsAt : Channel → rules.Work → Result Verdict Error → Type 0
  EndsAt last new result = Runs form tells rules in_old last place work new before result
      × Checks form tells rules.format rules.told in_old last place before result

  pub stops_last : (found : Option ℕ) (step : Step) → ReadsStep form tells in_now in_new middle after (given step (Ok found)) → found ≡ None
      → (verdict : Verdict) → verdict ≡ end_verdict has_empty after.line → Ends read (Ok verdict)
  stops_last found step reads is verdict told =
      subst (λ v. Ends read (Ok v)) (sym told)
      (at_last (subst (λ x. ReadsStep form tells in_now in_new middle after (given step (Ok x))) is reads))

  pub stops_error : (error : StepError) (result : Result Verdict Error) → ReadsStep form tells in_now in_new middle after (Err error)
      → result ≡ told_by rules.told (error_answer error) → Ends read result
  stops_error error result reads told = subst (λ r. Ends read r) (sym told) (at_error error reads)

  module _ (next : rules.Place) (in_last : Channel) (channel_is : in_last ≡ in_new) (step : Step)
      (found : Option ℕ) (at : ℕ) (reads : ReadsStep form tells in_now in_new middle after (given step (Ok found))) (is : found ≡ Some at)
      (near : (more : List ℕ) → is_near (length more) (wants_ahead form after more) ≡ true) (new : rules.Work) where
    pub stops_bad : (answer : Option Reason) (reason : Reason) → Judges rules now next step (Ok answer)
        → rules.does now read new has_empty step (Ok answer) → answer ≡ Some reason → EndsAt in_last new (Ok (Refused at reason))
    stops_bad answer reason judges does same =
        subst (λ x. EndsAt x new (Ok (Refused at reason))) (sym channel_is)
        (at_bad_step step at (subst (λ x. ReadsStep form tells in_now in_new middle after (given step (Ok x))) is reads) near new reason
        (subst (λ x. rules.does now read new has_empty step (Ok x)) same does)
        (subst (λ x. Judges rules now next step (Ok x)) same judges))

    pub stops_unanswered : (error : Error) → Judges rules now next step (Err error)
        → rules.does now read new has_empty step (Err error) → EndsAt in_last new (Err error)
    stops_unanswered error judges does =
        subst (λ x. EndsAt x new (Err error)) (sym channel_is)
        (at_no_answer step at (subst (λ x. ReadsStep form tells in_now in_new middle after (given step (Ok x))) is reads) near new error
        does judges)
