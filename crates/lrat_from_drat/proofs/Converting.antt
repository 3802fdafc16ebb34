-- What a run over the steps wrote, and how it came to its answer.
use Rattle.std.proofs.Common.{◌≡◌, ℕ, Bool, true, false, ◌||◌, List, [], ◌∷◌, ◌++◌, take, drop, Option, Some, None, Ok, Err}
use Rattle.std.proofs.Common.{refl, sym, ◌∙◌, ap, subst, append_assoc}
use Rattle.std.specs.Prelude.{◌≢◌, Result, IsTrue, IfNone, IfOk}
use Rattle.std.proofs.lemmas.List.{append-nil, take-append-drop}
use Rattle.host_io.specs.declared.role.Role.{Role}
use Rattle.host_io.specs.declared.role.Role.TheVariants.{ProofIn, ProofOut}
use Rattle.host_io.specs.declared.source.Failed.{Failed}
use Rattle.host_io.specs.Channel.{Channel, Rose}
use Rattle.host_io.specs.Files.{Files}
use Rattle.text_scan.specs.Decides.{Decides-map}
use Rattle.lrat_text.specs.LineSteps.{StepsOf, next_step}
use Rattle.lrat_text.specs.LineReader.{ReaderOf, steps_ahead}
use Rattle.lrat_rules.specs.declared.outcome.Reason.{Reason}
use Rattle.lrat_rules.specs.State.{State}
use Rattle.lrat_rules.specs.Derivation.{text_of}
use Rattle.proof_judging.specs.declared.verdict.Verdict.{Verdict}
use Rattle.proof_judging.specs.Verdict.{end_verdict}
use Rattle.proof_judging.specs.Rules.{Judges}
use Rattle.proof_judging.specs.Run.{Exit, IsNext, Leads as TookAll, Leaves, Runs, answer_at, before_all}
use Rattle.proof_judging.specs.Run.{at_end as stops_at_end, at_bad_line, at_limit, at_fault, at_memory, at_step}
use Rattle.proof_judging.specs.Checks.{Checks}
use Rattle.proof_judging.proofs.Covered.{runs_covered}
use Rattle.drat_text.specs.declared.step.DratStep.{DratStep}
use Rattle.drat_text.specs.Draft.{DratDraft, drat_form}
use Rattle.drat_rules.specs.Clauses.{Equality}
use Rattle.drat_rules.specs.Run.{adds_empty, drat_step_fault}
use Rattle.drat_proof.specs.declared.error.ConvertError.{ConvertError}
use Rattle.drat_proof.specs.declared.error.ConvertError.TheVariants.{ReadFault, TooLong, OutOfMemory, WriteFault}
use Rattle.drat_proof.specs.TwoRoles.{KeptButTwo, OnlyWrites, added}
use Rattle.drat_proof.specs.Conversion.{convert_error}
use Rattle.drat_proof.proofs.Roles.{OnlyWrites-then, kept_both, kept_first, kept_none, kept_second, only_writes, same_writes, writes_none}
use Rattle.drat_proof.proofs.Added.{added_is, appended}
use Rattle.drat_proof.proofs.Converting.{has_verdict}
use Rattle.drat_checker.specs.DratVerdict.{DratPlace, drat_format}
use Rattle.drat_checker.specs.Places.{Places, standing}
use Rattle.lrat_from_drat.specs.Following.{Follows}
use Rattle.lrat_from_drat.specs.Writing.{Takes, Writes}
use Rattle.lrat_from_drat.specs.Lrat.{Outline, lrat_of, lrat_of_step, places_after, unless_fault}
use Rattle.lrat_from_drat.specs.Conversion.{AreFirstLinesOf, AreLinesOf, AreRefuting, AreSteps, ConvertsSteps, HasLines, HasSteps}
use Rattle.lrat_from_drat.specs.Converting.{IsReady, Work, converting_rules}
use Rattle.lrat_from_drat.proofs.Becoming.{alike-append}
use Rattle.lrat_from_drat.proofs.Leading.{SoFar, either-empty, leads-then, one_more, text-append}
use Rattle.lrat_from_drat.proofs.Followed.{leads-none}

-- whole lines
module _ {tells : Bool} {old new : Channel} {from : State} {places : Places} {has_empty : Bool} {front : List Outline}
    (s : SoFar tells old new from places has_empty front)
    (t : IsTrue tells) where
  pub are-steps : AreSteps from (added old new)
  are-steps = record { then = s.then; steps = s.steps; leads = s.leads; text = added_is old new (text_of s.steps) (s.written t) }

  pub are-lines : AreLinesOf front (added old new)
  are-lines = record { steps = s.steps; alike = s.alike; text = added_is old new (text_of s.steps) (s.written t) }

  pub are-refuting : has_empty ≡ true → AreRefuting from (added old new)
  are-refuting is = record {
    then = s.then;
    steps = s.steps;
    leads = s.leads;
    text = added_is old new (text_of s.steps) (s.written t);
    empty = s.empty is;
  }

  -- the end's verdict
  by-end : (b : Bool) (line : ℕ) → has_empty ≡ b → HasSteps (Ok (end_verdict b line)) from (added old new)
  by-end true line is = are-refuting is
  by-end false line is = are-steps

  pub at-end : (line : ℕ) → HasSteps (Ok (end_verdict has_empty line)) from (added old new)
  at-end line = by-end has_empty line refl

  pub have-appended : new.written ≡ old.written ++ added old new
  have-appended = appended old new (text_of s.steps) (s.written t)

-- a front of the lines of one more step, and what is left of them
module _ {tells : Bool} {old mid new : Channel} {same : Equality} {from : State} {places : Places} {has_empty : Bool} {next : Places}
    {front : List Outline} (s : SoFar tells old mid from places has_empty front) (t : IsTrue tells) where
  pub broken : (step : DratStep) (failed : Failed) → Writes tells mid new same places next step (Err failed)
      → (new.written ≡ old.written ++ added old new) × ((rest : List ℕ) × AreSteps from (added old new ++ rest)
      × AreLinesOf (front ++ lrat_of_step same places step) (added old new ++ rest))
  broken step failed writes =
      let last = writes.from s.then s.follows in
      let piece = text_of last.steps in
      let cut = last.lines.failed t refl in
      let more : new.written ≡ old.written ++ (text_of s.steps ++ take cut.0 piece) =
      cut.1 ∙ ap (λ (l : List ℕ). l ++ take cut.0 piece) (s.written t) ∙ append_assoc old.written (text_of s.steps)
      (take cut.0 piece) in
      let whole : added old new ++ drop cut.0 piece ≡ text_of (s.steps ++ last.steps) =
      ap (λ (l : List ℕ). l ++ drop cut.0 piece) (added_is old new (text_of s.steps ++ take cut.0 piece) more)
      ∙ append_assoc (text_of s.steps) (take cut.0 piece) (drop cut.0 piece)
      ∙ ap (λ (l : List ℕ). text_of s.steps ++ l) (take-append-drop cut.0 piece)
      ∙ sym (text-append s.steps last.steps) in (
        appended old new (text_of s.steps ++ take cut.0 piece) more,
        (
          drop cut.0 piece,
          record { then = last.then; steps = s.steps ++ last.steps; leads = leads-then s.leads last.leads; text = whole },
          record {
            steps = s.steps ++ last.steps;
            alike = alike-append s.steps last.steps front (lrat_of_step same places step) s.alike last.alike;
            text = whole;
          },
        ),
      )

-- What was written from these clauses on, where those steps are left of the ones that were taken, all of which stand before the rest.
pub record Wrote (tells : Bool) (same : Equality) (from places : Places) (whole : StepsOf DratStep → StepsOf DratStep)
    (left : List (DratStep × ℕ)) (out_old out_now : Channel) (has_empty : Bool) : Type 0 where
  pub front : List Outline
  pub begun : (state : State) → Follows state from → SoFar tells out_old out_now state places has_empty front
  pub text : (rest : StepsOf DratStep) → lrat_of same from (whole rest) ≡ front ++ lrat_of same places (before_all left rest)
  pub unfailed : out_now.faults ≡ out_old.faults

wrote_nothing : (tells : Bool) (same : Equality) (from : Places) (taken : List (DratStep × ℕ)) (out : Channel)
    → Wrote tells same from from (before_all taken) taken out out false
wrote_nothing tells same from taken out = record {
  front = [];
  begun = λ state f. record {
    then = state;
    steps = [];
    leads = leads-none state;
    follows = f;
    alike = refl;
    empty = λ e. cc;
    written = λ t. sym (append-nil out.written);
  };
  text = λ rest. refl;
  unfailed = refl;
}

-- Of one step. It is nothing but writes.
pub takes_writes : (tells : Bool) (old new : Channel) (same : Equality) (before after : Places) (step : DratStep)
    (result : Result (Option Reason) ConvertError) → ((state : State) × Follows state before)
    → Takes tells old new same before after step result → OnlyWrites old new
takes_writes tells old new same before after step (Ok None) some takes = only_writes (takes.2.from some.0 some.1).lines
takes_writes tells old new same before after step (Ok (Some reason)) some takes = same_writes takes.1
takes_writes tells old new same before after step (Err OutOfMemory) some takes = same_writes takes
takes_writes tells old new same before after step (Err WriteFault) some takes = only_writes (takes.1.1.from some.0 some.1).lines
takes_writes tells old new same before after step (Err ReadFault) some takes = absurd takes
takes_writes tells old new same before after step (Err TooLong) some takes = absurd takes

-- so it was judged by the rules
pub takes_judges : {Judge Host : Type 0} (same_of : Judge → Equality) (places_of : Judge → Places) (channels_of : Host → Role → Channel)
    (files_of : Host → Files) (tells : Bool) (old new : Channel) (same : Equality) (before after : Places) (step : DratStep)
    (result : Result (Option Reason) ConvertError) → Takes tells old new same before after step result
    → Judges (converting_rules tells same_of places_of channels_of files_of) (same, standing before) (same, standing after) step result
takes_judges same_of places_of channels_of files_of tells old new same before after step (Ok None) takes =
    (takes.0, ap (λ cs. (same, cs)) takes.1)
takes_judges same_of places_of channels_of files_of tells old new same before after step (Ok (Some reason)) takes = takes.0
takes_judges same_of places_of channels_of files_of tells old new same before after step (Err OutOfMemory) takes = record {
  no_fault = λ e. cc;
  no_limit = λ e. cc;
  memory = λ e. refl;
}
takes_judges same_of places_of channels_of files_of tells old new same before after step (Err WriteFault) takes = record {
  no_fault = λ e. cc;
  no_limit = λ e. cc;
  memory = λ e. refl;
}
takes_judges same_of places_of channels_of files_of tells old new same before after step (Err ReadFault) takes = absurd takes
takes_judges same_of places_of channels_of files_of tells old new same before after step (Err TooLong) takes = absurd takes

-- what holds after each step
pub where_good : (source_old source_new sink_old sink_new : Channel) (tells wanted is_wanted : Bool) (same : Equality)
    (before after : Places)
    (step : DratStep) (result : Result (Option Reason) ConvertError) → IsReady source_old sink_old wanted before
    → Takes tells sink_old sink_new same before after step result → source_new ≡ source_old → is_wanted ≡ wanted
    → IfOk result (λ fault. IfNone fault (IsReady source_new sink_new is_wanted after))
where_good source_old source_new sink_old sink_new tells wanted is_wanted same before after step (Ok None) ready takes unread still =
    let last = takes.2.from ready.followed.0 ready.followed.1 in
    record {
      opened = λ e. ready.opened (sym (ap (λ (c : Channel). c.name) unread) ∙ e);
      created = λ e. ready.created (sym last.lines.name ∙ e);
      wanted = still ∙ ready.wanted;
      followed = (last.then, last.follows);
    }
where_good source_old source_new sink_old sink_new tells wanted is_wanted same before after step
    (Ok (Some reason)) ready takes unread still =
    tt
where_good source_old source_new sink_old sink_new tells wanted is_wanted same before after step (Err error) ready takes unread still = tt

module _ {Judge Host : Type 0} (tells : Bool) (same_of : Judge → Equality) (places_of : Judge → Places)
    (channels_of : Host → Role → Channel)
    (files_of : Host → Files) where
  -- reading writes nothing
  read_on : (same : Equality) (from : Places) (whole : StepsOf DratStep → StepsOf DratStep) (left : List (DratStep × ℕ)) (out_old : Channel)
      (old read : Work) (has : Bool) → (converting_rules tells same_of places_of channels_of files_of).reads old read
      → Wrote tells same from old.places whole left out_old (old.channels ProofOut) has
      → Wrote tells same from read.places whole left out_old (read.channels ProofOut) has
  read_on same from whole left out_old old read has reads wrote =
      subst (λ (c : Channel). Wrote tells same from read.places whole left out_old c has) (sym (reads.1.others ProofOut refl))
      (subst (λ (ps : Places). Wrote tells same from ps whole left out_old (old.channels ProofOut) has) (sym reads.0) wrote)

  -- one step more
  step_on : (same : Equality) (from : Places) (whole : StepsOf DratStep → StepsOf DratStep) (step : DratStep) (line : ℕ)
      (left : List (DratStep × ℕ)) (out_old : Channel) (old done : Work) (had : Bool) → ((state : State) × Follows state from)
      → Takes tells (old.channels ProofOut) (done.channels ProofOut) same old.places done.places step (Ok None)
      → Wrote tells same from old.places whole ((step, line) ∷ left) out_old (old.channels ProofOut) had
      → Wrote tells same from done.places whole left out_old (done.channels ProofOut) (had || adds_empty step)
  step_on same from whole step line left out_old old done had some takes wrote =
      let piece : List Outline = lrat_of_step same old.places step in
      record {
        front = wrote.front ++ piece;
        begun = λ state f.
            let before = wrote.begun state f in
            let last = takes.2.from before.then before.follows in
            record {
              then = last.then;
              steps = before.steps ++ last.steps;
              leads = leads-then before.leads last.leads;
              follows = last.follows;
              alike = alike-append before.steps last.steps wrote.front piece before.alike last.alike;
              empty = either-empty had (had || adds_empty step) step before.steps last.steps refl before.empty last.empty;
              written = λ t. one_more out_old.written (old.channels ProofOut).written
                  (done.channels ProofOut).written before.steps last.steps
                  (before.written t) (last.lines.done t refl);
            };
        text = λ rest. wrote.text rest
            ∙ ap (λ (l : List Outline). wrote.front ++ l)
            (ap (λ f. unless_fault f (piece ++ lrat_of same (places_after same old.places step) (before_all left rest))) takes.0
            ∙ ap (λ (ps : Places). piece ++ lrat_of same ps (before_all left rest)) (sym takes.2.places))
            ∙ sym (append_assoc wrote.front piece (lrat_of same done.places (before_all left rest)));
        unfailed =
            let before = wrote.begun some.0 some.1 in
            (takes.2.from before.then before.follows).lines.faults.unfailed refl ∙ wrote.unfailed;
      }

  leads_wrote : (taken : List (DratStep × ℕ)) (place last : DratPlace) (work now : Work) (had has : Bool) (from : Places)
      (whole : StepsOf DratStep → StepsOf DratStep) (out_old : Channel) → ((state : State) × Follows state from)
      → TookAll (converting_rules tells same_of places_of channels_of files_of) place work had taken last now has
      → Wrote tells place.0 from work.places whole taken out_old (work.channels ProofOut) had
      → Wrote tells place.0 from now.places whole [] out_old (now.channels ProofOut) has
  leads_wrote [] place last work now had has from whole out_old some leads wrote =
      subst (λ (h : Bool). Wrote tells place.0 from now.places whole [] out_old (now.channels ProofOut) h) leads.2
      (subst (λ (w : Work). Wrote tells place.0 from w.places whole [] out_old (w.channels ProofOut) had) leads.1 wrote)
  leads_wrote ((step, line) ∷ taken) place last work now had has from whole out_old some leads wrote =
      leads_wrote taken (drat_format.after place step) last leads.1 now (had || adds_empty step) has from whole out_old some leads.5
      (step_on place.0 from whole step line taken out_old leads.0 leads.1 had some leads.3.2
      (read_on place.0 from whole ((step, line) ∷ taken) out_old work leads.0 had leads.2 wrote))

  -- clauses are told to be the same by one equality
  leads_same : (taken : List (DratStep × ℕ)) (place last : DratPlace) (work now : Work) (had has : Bool)
      → TookAll (converting_rules tells same_of places_of channels_of files_of) place work had taken last now has → place.0 ≡ last.0
  leads_same [] place last work now had has leads = ap (λ (p : DratPlace). p.0) leads.0
  leads_same ((step, line) ∷ taken) place last work now had has leads =
      leads_same taken (drat_format.after place step) last leads.1 now (had || adds_empty step) has leads.5

  module _ (same : Equality) (from : Places) (whole : StepsOf DratStep → StepsOf DratStep) (out_old : Channel) (last : DratPlace)
      (read new : Work) (has : Bool) (wrote : Wrote tells same from read.places whole [] out_old (read.channels ProofOut) has)
      (some : (state : State) × Follows state from) (alike : same ≡ last.0) where
    abbrev out_new : Channel
    out_new = new.channels ProofOut

    -- nothing more was written
    abbrev Stays : Type 0
    Stays = out_new ≡ read.channels ProofOut

    so_far : Stays → (state : State) → Follows state from → SoFar tells out_old out_new state read.places has wrote.front
    so_far stays state f = subst (λ (c : Channel). SoFar tells out_old c state read.places has wrote.front) (sym stays)
        (wrote.begun state f)

    all_lines : Stays → IsTrue tells → (steps rest : StepsOf DratStep) → steps ≡ whole rest → lrat_of same read.places rest ≡ []
        → AreLinesOf (lrat_of same from steps) (added out_old out_new)
    all_lines stays t steps rest parts none =
        subst (λ (l : List Outline). AreLinesOf l (added out_old out_new))
        (sym (ap (lrat_of same from) parts ∙ wrote.text rest ∙ ap (λ (l : List Outline). wrote.front ++ l) none ∙ append-nil wrote.front))
        (are-lines (so_far stays some.0 some.1) t)

    first_lines : Stays → IsTrue tells → (steps rest : StepsOf DratStep) → steps ≡ whole rest
        → AreFirstLinesOf (lrat_of same from steps) (added out_old out_new)
    first_lines stays t steps rest parts = record {
      front = wrote.front;
      rest = lrat_of same read.places rest;
      parts = ap (lrat_of same from) parts ∙ wrote.text rest;
      lines = are-lines (so_far stays some.0 some.1) t;
    }

    bad_ahead : (step : DratStep) (line : ℕ) (reason : Reason) (behind rest : StepsOf DratStep) → rest ≡ next_step step line behind
        → drat_step_fault (standing read.places) step ≡ Some reason → lrat_of same read.places rest ≡ []
    bad_ahead step line reason behind rest is bad =
        ap (lrat_of same read.places) is
        ∙ ap (λ f. unless_fault f (lrat_of_step same read.places step ++ lrat_of same (places_after same read.places step) behind)) bad

    -- a write of a step that failed
    abbrev Fails : DratStep → Type 0
    Fails step = Takes tells (read.channels ProofOut) out_new same read.places new.places step (Err WriteFault)

    fails : (step : DratStep) → Takes tells (read.channels ProofOut) out_new last.0 read.places new.places step (Err WriteFault)
        → Fails step
    fails step takes =
        subst (λ (s : Equality). Takes tells (read.channels ProofOut) out_new s read.places new.places step (Err WriteFault))
        (sym alike) takes

    first_and_torn : (step : DratStep) (line : ℕ) (takes : Fails step) → IsTrue tells → (steps behind rest : StepsOf DratStep)
        → steps ≡ whole rest → rest ≡ next_step step line behind
        → (more : List ℕ) × AreFirstLinesOf (lrat_of same from steps) (added out_old out_new ++ more)
    first_and_torn step line takes t steps behind rest parts is =
        let torn = (broken (wrote.begun some.0 some.1) t step takes.1.0 takes.1.1).1 in
        let piece : List Outline = lrat_of_step same read.places step in
        let later : List Outline = lrat_of same (places_after same read.places step) behind in (
          torn.0,
          record {
            front = wrote.front ++ piece;
            rest = later;
            parts = ap (lrat_of same from) parts ∙ wrote.text rest
                ∙ ap (λ (l : List Outline). wrote.front ++ l)
                (ap (lrat_of same read.places) is ∙ ap (λ f. unless_fault f (piece ++ later)) takes.0)
                ∙ sym (append_assoc wrote.front piece later);
            lines = torn.2;
          },
        )

    -- what each way to end wrote: lines
    exit_lines : (t : IsTrue tells) (exit : Exit DratStep ConvertError) (steps rest : StepsOf DratStep)
        → Leaves (converting_rules tells same_of places_of channels_of files_of) last read new has exit → steps ≡ whole rest
        → IsNext exit rest
        → HasLines (answer_at convert_error has exit) (lrat_of same from steps) (added out_old out_new)
    exit_lines t (stops_at_end line) steps rest leaves parts next =
        all_lines (ap (λ (w : Work). w.channels ProofOut) (sym leaves)) t steps rest parts (ap (lrat_of same read.places) next)
    exit_lines t (at_bad_line line) steps rest leaves parts next =
        all_lines (ap (λ (w : Work). w.channels ProofOut) (sym leaves)) t steps rest parts (ap (lrat_of same read.places) next)
    exit_lines t at_limit steps rest leaves parts next =
        all_lines (ap (λ (w : Work). w.channels ProofOut) (sym leaves)) t steps rest parts (ap (lrat_of same read.places) next)
    exit_lines t at_fault steps rest leaves parts next =
        first_lines (ap (λ (w : Work). w.channels ProofOut) (sym leaves)) t steps rest parts
    exit_lines t at_memory steps rest leaves parts next =
        first_lines (ap (λ (w : Work). w.channels ProofOut) (sym leaves)) t steps rest parts
    exit_lines t (at_step step line (Ok reason)) steps rest leaves parts next =
        all_lines leaves.2.1 t steps rest parts (bad_ahead step line reason next.0 rest next.1 leaves.2.0)
    exit_lines t (at_step step line (Err OutOfMemory)) steps rest leaves parts next = first_lines leaves.2 t steps rest parts
    exit_lines t (at_step step line (Err WriteFault)) steps rest leaves parts next =
        first_and_torn step line (fails step leaves.2) t steps next.0 rest parts next.1
    exit_lines t (at_step step line (Err ReadFault)) steps rest leaves parts next = absurd leaves.2
    exit_lines t (at_step step line (Err TooLong)) steps rest leaves parts next = absurd leaves.2

    -- good steps
    exit_steps : (t : IsTrue tells) (state : State) → Follows state from → (exit : Exit DratStep ConvertError)
        → Leaves (converting_rules tells same_of places_of channels_of files_of) last read new has exit
        → HasSteps (answer_at convert_error has exit) state (added out_old out_new)
    exit_steps t state f (stops_at_end line) leaves = at-end (so_far (ap (λ (w : Work). w.channels ProofOut) (sym leaves)) state f) t line
    exit_steps t state f (at_bad_line line) leaves = are-steps (so_far (ap (λ (w : Work). w.channels ProofOut) (sym leaves)) state f) t
    exit_steps t state f at_limit leaves = are-steps (so_far (ap (λ (w : Work). w.channels ProofOut) (sym leaves)) state f) t
    exit_steps t state f at_fault leaves = are-steps (so_far (ap (λ (w : Work). w.channels ProofOut) (sym leaves)) state f) t
    exit_steps t state f at_memory leaves = are-steps (so_far (ap (λ (w : Work). w.channels ProofOut) (sym leaves)) state f) t
    exit_steps t state f (at_step step line (Ok reason)) leaves = are-steps (so_far leaves.2.1 state f) t
    exit_steps t state f (at_step step line (Err OutOfMemory)) leaves = are-steps (so_far leaves.2 state f) t
    exit_steps t state f (at_step step line (Err WriteFault)) leaves =
        let takes = fails step leaves.2 in
        let torn = (broken (wrote.begun state f) t step takes.1.0 takes.1.1).1 in
        (torn.0, torn.1)
    exit_steps t state f (at_step step line (Err ReadFault)) leaves = absurd leaves.2
    exit_steps t state f (at_step step line (Err TooLong)) leaves = absurd leaves.2

    -- and what it tells of the sink
    record Sinks (answer : Result Verdict ConvertError) : Type 0 where
      appended : IsTrue tells → out_new.written ≡ out_old.written ++ added out_old out_new
      fault : answer ≡ Err WriteFault → Rose out_old.faults out_new.faults
      unfailed : answer ≢ Err WriteFault → out_new.faults ≡ out_old.faults

    sinks_whole : (answer : Result Verdict ConvertError) → Stays → answer ≢ Err WriteFault → Sinks answer
    sinks_whole answer stays other = record {
      appended = λ t. have-appended (so_far stays some.0 some.1) t;
      fault = λ e. absurd (other e);
      unfailed = λ differs. ap (λ (c : Channel). c.faults) stays ∙ wrote.unfailed;
    }

    exit_sinks : (exit : Exit DratStep ConvertError)
        → Leaves (converting_rules tells same_of places_of channels_of files_of) last read new has exit
        → Sinks (answer_at convert_error has exit)
    exit_sinks (stops_at_end line) leaves = sinks_whole _ (ap (λ (w : Work). w.channels ProofOut) (sym leaves)) (λ e. cc)
    exit_sinks (at_bad_line line) leaves = sinks_whole _ (ap (λ (w : Work). w.channels ProofOut) (sym leaves)) (λ e. cc)
    exit_sinks at_limit leaves = sinks_whole _ (ap (λ (w : Work). w.channels ProofOut) (sym leaves)) (λ e. cc)
    exit_sinks at_fault leaves = sinks_whole _ (ap (λ (w : Work). w.channels ProofOut) (sym leaves)) (λ e. cc)
    exit_sinks at_memory leaves = sinks_whole _ (ap (λ (w : Work). w.channels ProofOut) (sym leaves)) (λ e. cc)
    exit_sinks (at_step step line (Ok reason)) leaves = sinks_whole _ leaves.2.1 (λ e. cc)
    exit_sinks (at_step step line (Err OutOfMemory)) leaves = sinks_whole _ leaves.2 (λ e. cc)
    exit_sinks (at_step step line (Err WriteFault)) leaves =
        let takes = fails step leaves.2 in
        let before = wrote.begun some.0 some.1 in
        record {
          appended = λ t. (broken before t step takes.1.0 takes.1.1).0;
          fault = λ e. subst (λ (n : ℕ). Rose n out_new.faults) wrote.unfailed
              ((takes.1.1.from before.then before.follows).lines.faults.cause refl);
          unfailed = λ differs. absurd (differs refl);
        }
    exit_sinks (at_step step line (Err ReadFault)) leaves = absurd leaves.2
    exit_sinks (at_step step line (Err TooLong)) leaves = absurd leaves.2

  pub runs_converts : (in_old in_new : Channel) (same : Equality) (old new : Work) (reader : ReaderOf DratDraft)
      (result : Result Verdict ConvertError) → ((state : State) × Follows state old.places)
      → Runs drat_form tells (converting_rules tells same_of places_of channels_of files_of) in_old in_new
      (same, standing old.places) old new
      reader result
      → Checks drat_form tells drat_format convert_error in_old in_new (same, standing old.places) reader result
      → ConvertsSteps tells in_old in_new (old.channels ProofOut) (new.channels ProofOut) same old.places reader result
  runs_converts in_old in_new same old new reader result some runs checks =
      let place : DratPlace = (same, standing old.places) in
      let whole = before_all runs.taken in
      let out = old.channels ProofOut in
      let alike = leads_same runs.taken place runs.last old runs.done false runs.has_empty runs.leads in
      let wrote = read_on same old.places whole [] out runs.done runs.read runs.has_empty runs.reads
      (leads_wrote runs.taken place runs.last old runs.done false runs.has_empty old.places whole out some runs.leads
      (wrote_nothing tells same old.places runs.taken out)) in
      let sinks = subst (λ r. Sinks same old.places whole out runs.last runs.read new runs.has_empty wrote some alike r) (sym runs.answer)
      (exit_sinks same old.places whole out runs.last runs.read new runs.has_empty wrote some alike runs.exit runs.leaves) in
      record {
        decides = λ t. Decides-map _ (checks.decides t) (λ bytes more answers. has_verdict result _ answers);
        written = λ t state f. subst (λ r. HasSteps r state (added out (new.channels ProofOut))) (sym runs.answer)
            (exit_steps same old.places whole out runs.last runs.read new runs.has_empty wrote some alike t state f runs.exit runs.leaves);
        lines = λ t. Decides-map _ (runs.ahead t) (λ bytes more ahead.
            subst (λ r. HasLines r (lrat_of same old.places (steps_ahead drat_form reader bytes)) (added out (new.channels ProofOut)))
            (sym runs.answer)
            (exit_lines same old.places whole out runs.last runs.read new runs.has_empty wrote some alike t runs.exit
            (steps_ahead drat_form reader bytes) ahead.rest runs.leaves ahead.parts ahead.next));
        appended = sinks.appended;
        undecided = checks.undecided;
        wants = checks.wants;
        read_fault = checks.fault;
        write_fault = sinks.fault;
        unfailed_reads = checks.unfailed;
        unfailed_writes = sinks.unfailed;
        reads = checks.reads;
        writes = runs_covered (converting_rules tells same_of places_of channels_of files_of)
            (λ before after. OnlyWrites (before.channels ProofOut) (after.channels ProofOut)) (λ work. writes_none (work.channels ProofOut))
            (λ before now after first second. OnlyWrites-then first second)
            (λ before after reads. same_writes (reads.1.others ProofOut refl))
            (λ at before after has step answer does. does.1)
            drat_form tells in_old in_new place old new reader result runs;
      }

  -- the other roles and files stay
  pub runs_kept : (in_old in_new : Channel) (place : DratPlace) (old new : Work) (reader : ReaderOf DratDraft)
      (result : Result Verdict ConvertError)
      → Runs drat_form tells (converting_rules tells same_of places_of channels_of files_of) in_old in_new place old new reader result
      → KeptButTwo ProofIn ProofOut (old.channels ProofOut).name old.channels new.channels old.files new.files
  runs_kept in_old in_new place old new reader result runs =
      (runs_covered (converting_rules tells same_of places_of channels_of files_of)
      (λ before after. KeptButTwo ProofIn ProofOut (before.channels ProofOut).name before.channels after.channels before.files after.files
      × ((after.channels ProofOut).name ≡ (before.channels ProofOut).name)) (λ work. (kept_none work.channels work.files, refl))
      (λ before now after first second. (kept_both first.0 second.0 first.1, second.1 ∙ first.1))
      (λ before after reads. (kept_first reads.1, ap (λ (c : Channel). c.name) (reads.1.others ProofOut refl)))
      (λ at before after has step answer does. (kept_second does.0, does.1.name))
      drat_form tells in_old in_new place old new reader result runs).0
