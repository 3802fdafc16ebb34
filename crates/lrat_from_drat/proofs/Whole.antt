-- The beginning and the steps behind it make up the whole conversion.
use Rattle.std.proofs.Common.{◌≡◌, ℕ, Bool, false, ℤ, List, [], ◌++◌, take, drop, length, map, Option, Some, None, Ok, Err, refl, sym}
use Rattle.std.proofs.Common.{◌∙◌, ap, subst, append_assoc, inl, inr}
use Rattle.std.specs.Prelude.{Result, IsTrue}
use Rattle.std.specs.List.{list_any}
use Rattle.std.proofs.lemmas.Bool.{or_right}
use Rattle.std.proofs.lemmas.List.{append-nil, take-append-drop}
use Rattle.std.proofs.lemmas.List.Folds.{list_any-append}
use Rattle.cnf_base.specs.declared.step.Step.{Step}
use Rattle.host_io.specs.declared.role.Role.{Role}
use Rattle.host_io.specs.Channel.{Channel, Rose}
use Rattle.host_io.specs.Files.{Files, Kept}
use Rattle.text_scan.specs.Decides.{gained, Decides-map, Decides-none}
use Rattle.lrat_text.specs.LineReader.{ReaderOf, steps_ahead, so_far}
use Rattle.lrat_text.specs.LineWants.{wants_ahead}
use Rattle.lrat_rules.specs.State.{State, start}
use Rattle.lrat_rules.specs.Run.{Reached, Refutes, run, step_adds_empty}
use Rattle.lrat_rules.specs.Derivation.{lines_from, text_of}
use Rattle.cnf_base.specs.ProofText.{is_printable}
use Rattle.std.specs.List.{list_all}
use Rattle.proof_judging.specs.declared.verdict.Verdict.{Verdict}
use Rattle.proof_judging.specs.declared.verdict.Verdict.TheVariants.{Refused, Verified}
use Rattle.drat_text.specs.Draft.{DratDraft, drat_form}
use Rattle.drat_rules.specs.Clauses.{Equality}
use Rattle.drat_proof.specs.declared.error.ConvertError.{ConvertError}
use Rattle.drat_proof.specs.declared.error.ConvertError.TheVariants.{ReadFault, TooLong, OutOfMemory, WriteFault}
use Rattle.drat_proof.specs.TwoRoles.{KeptButTwo, added}
use Rattle.drat_proof.specs.Conversion.{HasVerdict}
use Rattle.drat_proof.proofs.Roles.{OnlyWrites-then, only_writes, reads_none, writes_none}
use Rattle.drat_proof.proofs.Added.{added_is, appended}
use Rattle.drat_checker.specs.DratVerdict.{drat_steps_verdict_by}
use Rattle.drat_checker.specs.Memory.{drat_reading_may_want_memory}
use Rattle.drat_checker.specs.Places.{Places}
use Rattle.drat_checker.proofs.Standing.{standing-all}
use Rattle.lrat_from_drat.specs.Following.{Leads}
use Rattle.lrat_from_drat.specs.Starting.{Begins, Begun}
use Rattle.lrat_from_drat.specs.Lrat.{Outline, beginning, lrat_of, outline}
use Rattle.lrat_from_drat.specs.Conversion.{AreFirstLinesOf, AreLinesOf, AreRefuting, AreSteps, ConvertsFrom, ConvertsSteps}
use Rattle.lrat_from_drat.specs.Conversion.{HasLines, HasSteps}
use Rattle.lrat_from_drat.proofs.Followed.{leads-none}
use Rattle.lrat_from_drat.proofs.Leading.{leads-then, text-append}
use Rattle.lrat_from_drat.proofs.Becoming.{alike-append}

-- steps behind others
module _ {from then : State} {steps : List Step} (leads : Leads from then steps) where
  behind : (written : List ℕ) → AreSteps then written → AreSteps from (text_of steps ++ written)
  behind written h = record {
    then = h.then;
    steps = steps ++ h.steps;
    leads = leads-then leads h.leads;
    text = ap (λ (l : List ℕ). text_of steps ++ l) h.text ∙ sym (text-append steps h.steps);
  }

  pub steps-behind : (result : Result Verdict ConvertError) (written : List ℕ) → HasSteps result then written
      → HasSteps result from (text_of steps ++ written)
  steps-behind (Ok Verified) written h = record {
    then = h.then;
    steps = steps ++ h.steps;
    leads = leads-then leads h.leads;
    text = ap (λ (l : List ℕ). text_of steps ++ l) h.text ∙ sym (text-append steps h.steps);
    empty = list_any-append step_adds_empty steps h.steps ∙ or_right (list_any step_adds_empty steps) _ h.empty;
  }
  steps-behind (Ok (Refused line reason)) written h = behind written h
  steps-behind (Err ReadFault) written h = behind written h
  steps-behind (Err TooLong) written h = behind written h
  steps-behind (Err OutOfMemory) written h = behind written h
  steps-behind (Err WriteFault) written h =
      (h.0, subst (AreSteps from) (sym (append_assoc (text_of steps) written h.0)) (behind (written ++ h.0) h.1))

-- the lines of steps behind those of others
module _ (steps : List Step) (front : List Outline) (alike : map outline steps ≡ front) where
  lines-after : (becomes : List Outline) (written : List ℕ) → AreLinesOf becomes written
      → AreLinesOf (front ++ becomes) (text_of steps ++ written)
  lines-after becomes written h = record {
    steps = steps ++ h.steps;
    alike = alike-append steps h.steps front becomes alike h.alike;
    text = ap (λ (l : List ℕ). text_of steps ++ l) h.text ∙ sym (text-append steps h.steps);
  }

  first-after : (becomes : List Outline) (written : List ℕ) → AreFirstLinesOf becomes written
      → AreFirstLinesOf (front ++ becomes) (text_of steps ++ written)
  first-after becomes written h = record {
    front = front ++ h.front;
    rest = h.rest;
    parts = ap (λ (l : List Outline). front ++ l) h.parts ∙ sym (append_assoc front h.front h.rest);
    lines = lines-after h.front written h.lines;
  }

  pub lines-behind : (result : Result Verdict ConvertError) (becomes : List Outline) (written : List ℕ) → HasLines result becomes written
      → HasLines result (front ++ becomes) (text_of steps ++ written)
  lines-behind (Ok verdict) becomes written h = lines-after becomes written h
  lines-behind (Err ReadFault) becomes written h = first-after becomes written h
  lines-behind (Err TooLong) becomes written h = lines-after becomes written h
  lines-behind (Err OutOfMemory) becomes written h = first-after becomes written h
  lines-behind (Err WriteFault) becomes written h = (
    h.0,
    subst (AreFirstLinesOf (front ++ becomes)) (sym (append_assoc (text_of steps) written h.0))
        (first-after becomes (written ++ h.0) h.1),
  )

-- the steps behind the beginning
module _ {tells : Bool} {in_old in_new out_old out_mid out_new : Channel} {same : Equality} {clauses : List (List ℤ)}
    {reader : ReaderOf DratDraft} {result : Result Verdict ConvertError} (begun : Begun tells out_old out_mid clauses (Ok tt))
    (converts : ConvertsSteps tells in_old in_new out_mid out_new same (map Some clauses) reader result) where
  all-written : IsTrue tells → out_new.written ≡ out_old.written ++ (text_of begun.steps ++ added out_mid out_new)
  all-written t =
      converts.appended t ∙ ap (λ (l : List ℕ). l ++ added out_mid out_new) (begun.lines.done t refl)
      ∙ append_assoc out_old.written (text_of begun.steps) (added out_mid out_new)

  pub goes-on : ConvertsFrom tells in_old in_new out_old out_new same clauses reader result
  goes-on = record {
    decides = λ t. Decides-map _ (converts.decides t) (λ bytes more h. subst (λ (cs : List (List ℤ)). HasVerdict result
        (drat_steps_verdict_by same cs false (steps_ahead drat_form reader bytes))) (standing-all clauses) h);
    written = λ t. subst (HasSteps result (start clauses))
        (sym (added_is out_old out_new (text_of begun.steps ++ added out_mid out_new) (all-written t)))
        (steps-behind begun.leads result (added out_mid out_new) (converts.written t begun.then begun.follows));
    lines = λ t. Decides-map _ (converts.lines t) (λ bytes more h.
        subst (HasLines result (beginning clauses ++ lrat_of same (map Some clauses) (steps_ahead drat_form reader bytes)))
        (sym (added_is out_old out_new (text_of begun.steps ++ added out_mid out_new) (all-written t)))
        (lines-behind begun.steps (beginning clauses) begun.alike result
        (lrat_of same (map Some clauses) (steps_ahead drat_form reader bytes)) (added out_mid out_new) h));
    appended = λ t. appended out_old out_new (text_of begun.steps ++ added out_mid out_new) (all-written t);
    undecided = λ t e. subst (λ (cs : List (List ℤ)). drat_steps_verdict_by same cs false
        (so_far drat_form reader (gained in_old in_new)) ≡ None)
        (standing-all clauses) (converts.undecided t e);
    wants = λ t e. inr (Decides-map _ (converts.wants t e) (λ bytes more h. subst (λ (cs : List (List ℤ)). IsTrue
        (drat_reading_may_want_memory same (length more) cs (wants_ahead drat_form reader bytes))) (standing-all clauses) h));
    read_fault = converts.read_fault;
    write_fault = λ e. subst (λ (n : ℕ). Rose n out_new.faults) (begun.lines.faults.unfailed refl) (converts.write_fault e);
    unfailed_reads = converts.unfailed_reads;
    unfailed_writes = λ differ. converts.unfailed_writes differ ∙ begun.lines.faults.unfailed refl;
    reads = converts.reads;
    writes = OnlyWrites-then (only_writes begun.lines) converts.writes;
  }

pub goes-on-from : {tells : Bool} {in_old in_mid in_new out_old out_mid out_new : Channel} {same : Equality} {clauses : List (List ℤ)}
    {places : Places} {reader : ReaderOf DratDraft} {result : Result Verdict ConvertError} → Begun tells out_old out_mid clauses (Ok tt)
    → in_mid ≡ in_old → places ≡ map Some clauses → ConvertsSteps tells in_mid in_new out_mid out_new same places reader result
    → ConvertsFrom tells in_old in_new out_old out_new same clauses reader result
goes-on-from {tells} {in_old} {in_mid} {in_new} {out_old} {out_mid} {out_new} {same} {clauses} {places} {reader} {result} begun at is
    converts =
    goes-on begun (subst (λ (ps : Places). ConvertsSteps tells in_old in_new out_mid out_new same ps reader result) is
    (subst (λ (i : Channel). ConvertsSteps tells i in_new out_mid out_new same places reader result) at converts))

-- nothing was written
no-steps : (state : State) (channel : Channel) → AreSteps state (added channel channel)
no-steps state channel = record {
  then = state;
  steps = [];
  leads = leads-none state;
  text = added_is channel channel [] (sym (append-nil channel.written));
}

no-lines : (becomes : List Outline) (channel : Channel) → AreFirstLinesOf becomes (added channel channel)
no-lines becomes channel = record {
  front = [];
  rest = becomes;
  parts = refl;
  lines = record { steps = []; alike = refl; text = added_is channel channel [] (sym (append-nil channel.written)) };
}

module _ (tells : Bool) (source out_old out_new : Channel) (same : Equality) (clauses : List (List ℤ)) (reader : ReaderOf DratDraft) where
  -- for want of memory
  starves : out_new ≡ out_old → ConvertsFrom tells source source out_old out_new same clauses reader (Err OutOfMemory)
  starves is = subst (λ (o : Channel). ConvertsFrom tells source source out_old o same clauses reader (Err OutOfMemory)) (sym is) (record {
    decides = λ t. Decides-none source _ (λ more. tt);
    written = λ t. no-steps (start clauses) out_old;
    lines = λ t. Decides-none source _ (λ more. no-lines _ out_old);
    appended = λ t. appended out_old out_old [] (sym (append-nil out_old.written));
    undecided = λ t e. cc;
    wants = λ t e. inl refl;
    read_fault = λ e. cc;
    write_fault = λ e. cc;
    unfailed_reads = λ differ. refl;
    unfailed_writes = λ differ. refl;
    reads = reads_none source;
    writes = writes_none out_old;
  })

  -- the beginning was cut off
  breaks_off : Begins tells out_old out_new clauses (Err WriteFault)
      → ConvertsFrom tells source source out_old out_new same clauses reader (Err WriteFault)
  breaks_off begins =
      let begun = begins.1 in
      let piece : List ℕ = text_of begun.steps in
      let whole : (t : IsTrue tells) → added out_old out_new ++ drop (begun.lines.failed t refl).0 piece ≡ piece =
      λ t.
      let front = begun.lines.failed t refl in
      ap (λ (l : List ℕ). l ++ drop front.0 piece) (added_is out_old out_new (take front.0 piece) front.1)
      ∙ take-append-drop front.0 piece in record {
        decides = λ t. Decides-none source _ (λ more. tt);
        written = λ t. (
          drop (begun.lines.failed t refl).0 piece,
          record { then = begun.then; steps = begun.steps; leads = begun.leads; text = whole t },
        );
        lines = λ t. Decides-none source _ (λ more. (
          drop (begun.lines.failed t refl).0 piece,
          record {
            front = beginning clauses;
            rest = lrat_of same (map Some clauses) (steps_ahead drat_form reader more);
            parts = refl;
            lines = record { steps = begun.steps; alike = begun.alike; text = whole t };
          },
        ));
        appended = λ t. let front = begun.lines.failed t refl in appended out_old out_new (take front.0 piece) front.1;
        undecided = λ t e. cc;
        wants = λ t e. cc;
        read_fault = λ e. cc;
        write_fault = λ e. begun.lines.faults.cause refl;
        unfailed_reads = λ differ. refl;
        unfailed_writes = λ differ. absurd (differ refl);
        reads = reads_none source;
        writes = only_writes begun.lines;
      }

  -- the beginning failed
  pub ends-early : (error : ConvertError) → Begins tells out_old out_new clauses (Err error)
      → ConvertsFrom tells source source out_old out_new same clauses reader (Err error)
  ends-early OutOfMemory begins = starves begins
  ends-early WriteFault begins = breaks_off begins
  ends-early ReadFault begins = absurd begins
  ends-early TooLong begins = absurd begins

-- for want of memory before the beginning
pub none-written : (result : Result Verdict ConvertError) (state : State) (channel : Channel) → result ≡ Err OutOfMemory
    → HasSteps result state (added channel channel)
none-written result state channel is =
    subst (λ (r : Result Verdict ConvertError). HasSteps r state (added channel channel)) (sym is) (no-steps state channel)

pub no-lines-written : (result : Result Verdict ConvertError) (becomes : List Outline) (channel : Channel) → result ≡ Err OutOfMemory
    → HasLines result becomes (added channel channel)
no-lines-written result becomes channel is =
    subst (λ (r : Result Verdict ConvertError). HasLines r becomes (added channel channel)) (sym is) (no-lines becomes channel)

-- verified steps refute
abbrev pub RefutesLaw : Type 0
RefutesLaw = (clauses : List (List ℤ)) (steps : List Step) (state : State) → run (start clauses) (lines_from 1 steps) ≡ Reached state
    → IsTrue (list_all is_printable steps) → IsTrue (list_any step_adds_empty steps) → Refutes clauses (text_of steps)

pub refutes : RefutesLaw → (clauses : List (List ℤ)) (written : List ℕ) (result : Result Verdict ConvertError) → result ≡ Ok Verified
    → HasSteps result (start clauses) written → Refutes clauses written
refutes law clauses written result is h =
    let own : AreRefuting (start clauses) written =
    subst (λ (r : Result Verdict ConvertError). HasSteps r (start clauses) written) is h in
    subst (Refutes clauses) (sym own.text) (law clauses own.steps own.then (own.leads.reached 1) own.leads.printable own.empty)

-- both calls leave alone what both roles don't tell
module _ {first second : Role} {own : Option (List ℕ)} where
  pub kept_then_both : {old mid new : Role → Channel} {old_files mid_files new_files : Files} {name : Option (List ℕ)}
      → Kept second own old mid old_files mid_files → KeptButTwo first second name mid new mid_files new_files → name ≡ own
      → KeptButTwo first second own old new old_files new_files
  kept_then_both kept both same = record {
    others = λ other a b. both.others other a b ∙ kept.others other b;
    files = λ file n. both.files file (λ e. n (sym same ∙ e)) ∙ kept.files file n;
  }
