-- Numbers that are taken from the scanner at once say what their tokens say.
use Rattle.std.proofs.Common.{◌≡◌, ℕ, ◌≤◌, Bool, true, false, ℤ, pos, negsuc, w64, to_z, of_z, List, [], ◌∷◌, ◌++◌}
use Rattle.std.proofs.Common.{◌==◌, if◌then◌else◌, refl, sym, ◌∙◌, ap, subst, arith}
use Rattle.std.specs.Prelude.{◌+◌, IsTrue, length, nat_abs}
use Rattle.std.proofs.lemmas.Bool.Decides.{nat_tests}
use Rattle.std.proofs.lemmas.Int.{to_z-of_z}
use Rattle.text_scan.specs.Capped.{cap}
use Rattle.host_io.specs.Channel.{Channel}
use Rattle.text_scan.specs.Decides.{gained, Decides, Decides-map}
use Rattle.text_scan.specs.Near.{is_near as are_near}
use Rattle.text_scan.specs.Items.{Items, next_word}
use Rattle.text_scan.specs.Scan.{Scan, TookNumber, TookNumbers, ahead, so_far as scan_so_far, is_reading as is_scanning, is_faulted, fuel}
use Rattle.lrat_text.specs.declared.reader.ReaderStatus.TheVariants.{Reading}
use Rattle.lrat_text.specs.Form.{Form, IsForm, with_numbers}
use Rattle.lrat_text.specs.LineSteps.{broken_off}
use Rattle.lrat_text.specs.LineReader.{ReaderOf, AnswerOf, with_token, drafted, BeginsLine, GoesOn, Gives, GivesSoFar, Settles}
use Rattle.lrat_text.specs.LineReader.{steps_ahead, open_count, so_far}
use Rattle.lrat_text.specs.LineWants.{wants_after, wants_ahead, Spends, Leads}
use Rattle.lrat_text.proofs.Settled.{token_goes, before_gives}
use Rattle.lrat_text.proofs.SoFar.{before_so_far}
use Rattle.lrat_text.proofs.Wanted.{Leads-refl, Leads-then, Leads-by, token_leads, before_spends}

-- a small number is read back from 64 bits
pub read_back : (number : ℤ) → nat_abs number ≤ cap → to_z w64 (of_z w64 number) ≡ number
read_back (pos n) small = to_z-of_z w64 (pos n) (record { sfits = omega (arith, small) })
read_back (negsuc n) small = to_z-of_z w64 (negsuc n) (record { sfits = omega (arith, small) })

same_line : (n : ℕ) → (n == n) ≡ true
same_line n = grind (arith, nat_tests)

module _ {Draft Step : Type 0} (form : Form Draft Step) (law : IsForm form) where
  -- one number
  pub GoesOn-number : (number : ℤ) (old new : ReaderOf Draft) → TookNumber number (form.line old.draft) old.scan new.scan → form.is_begun old.draft ≡ true
      → new.draft ≡ form.with_number old.draft number → new.status ≡ old.status → new.line ≡ old.line → GoesOn form old new
  GoesOn-number number old new took begun draft status line =
      let goes : (items : Items) → drafted form (next_word took.word items) old.draft ≡ drafted form items new.draft =
      λ items. token_goes form old.draft took.word items (λ _. rw took.line (same_line (form.line old.draft)))
      ∙ ap (drafted form items) (rw begun (law.later_number old.draft took.word number took.number_is took.small) ∙ sym draft) in
      record {
        steps = λ more. ap (λ is. drafted form is old.draft) (took.gives more) ∙ goes (ahead new.scan more);
        so_far = λ more. ap (λ is. drafted form (broken_off is) old.draft) (took.so_far more) ∙ goes (broken_off (scan_so_far new.scan more));
        scanning = ap is_scanning (took.status ∙ sym took.reading);
        faulted = ap is_faulted (took.status ∙ sym took.reading);
        begun = ap form.is_begun draft ∙ law.stays_begun old.draft number begun ∙ sym begun;
        status = status;
        line = line;
        less = omega (arith, took.gave.less);
      }

  -- none
  GoesOn-none : (old new : ReaderOf Draft) → new.scan ≡ old.scan → new.draft ≡ old.draft → new.status ≡ old.status → new.line ≡ old.line
      → GoesOn form old new
  GoesOn-none old new scan draft status line = record {
    steps = λ more. sym (ap (λ s. drafted form (ahead s more) new.draft) scan ∙ ap (drafted form (ahead old.scan more)) draft);
    so_far = λ more. sym (ap (λ s. drafted form (broken_off (scan_so_far s more)) new.draft) scan
        ∙ ap (drafted form (broken_off (scan_so_far old.scan more))) draft);
    scanning = ap (λ s. is_scanning s.status) scan;
    faulted = ap (λ s. is_faulted s.status) scan;
    begun = ap form.is_begun draft;
    status = status;
    line = line;
    less = omega (arith, ap fuel scan);
  }

module _ {Draft Step : Type 0} (form : Form Draft Step) where
  pub GoesOn-then : {a b c : ReaderOf Draft} → GoesOn form a b → GoesOn form b c → GoesOn form a c
  GoesOn-then p q = record {
    steps = λ more. p.steps more ∙ q.steps more;
    so_far = λ more. p.so_far more ∙ q.so_far more;
    scanning = q.scanning ∙ p.scanning;
    faulted = q.faulted ∙ p.faulted;
    begun = q.begun ∙ p.begun;
    status = q.status ∙ p.status;
    line = q.line ∙ p.line;
    less = omega (arith, p.less, q.less);
  }

-- its draft, and what memory is wanted for
module _ {Draft Step : Type 0} (form : Form Draft Step) (law : IsForm form) (number : ℤ) (old new : ReaderOf Draft) (took : TookNumber number (form.line old.draft) old.scan new.scan)
    (begun : form.is_begun old.draft ≡ true) where
  same_draft : form.with_word old.draft took.word ≡ form.with_number old.draft number
  same_draft = law.later_number old.draft took.word number took.number_is took.small

  same_word : (form.line old.draft == took.word.line) ≡ true
  same_word = rw took.line (same_line (form.line old.draft))

  pub number_leads : new.draft ≡ form.with_number old.draft number → (more : List ℕ) → Leads (wants_ahead form old more) (wants_ahead form new more)
  number_leads draft more =
      let token : with_token form old.draft took.word ≡ new.draft = rw begun (same_draft ∙ sym draft) in
      Leads-by (ap (λ is. wants_after form is old.draft) (took.gives more))
      (token_leads form old.draft took.word (ahead new.scan more) (λ _. same_word)) (ap (wants_after form (ahead new.scan more)) token)

-- numbers in turn
module _ {Draft Step : Type 0} (form : Form Draft Step) (law : IsForm form) where
  abbrev behind : ReaderOf Draft → ℤ → Scan → ReaderOf Draft
  behind old number scan = record { scan = scan; draft = form.with_number old.draft number; status = old.status; line = old.line }

  on_line : (numbers : List ℤ) (number : ℤ) (draft : Draft) (from to : Scan) → TookNumbers numbers (form.line draft) from to
      → TookNumbers numbers (form.line (form.with_number draft number)) from to
  on_line numbers number draft from to took = subst (λ line. TookNumbers numbers line from to) (sym (law.stays_on_line draft number)) took

  pub GoesOn-numbers : (numbers : List ℤ) (old new : ReaderOf Draft) → TookNumbers numbers (form.line old.draft) old.scan new.scan
      → form.is_begun old.draft ≡ true → new.draft ≡ with_numbers form old.draft numbers → new.status ≡ old.status → new.line ≡ old.line
      → GoesOn form old new
  GoesOn-numbers [] old new took begun draft status line = GoesOn-none form law old new took draft status line
  GoesOn-numbers (number ∷ numbers) old new (scan, one, rest) begun draft status line =
      GoesOn-then form (GoesOn-number form law number old (behind old number scan) one begun refl refl refl)
      (GoesOn-numbers numbers (behind old number scan) new (on_line numbers number old.draft scan new.scan rest)
      (law.stays_begun old.draft number begun) draft status line)

  pub numbers_lead : (numbers : List ℤ) (old new : ReaderOf Draft) → TookNumbers numbers (form.line old.draft) old.scan new.scan
      → form.is_begun old.draft ≡ true → new.draft ≡ with_numbers form old.draft numbers → (more : List ℕ)
      → Leads (wants_ahead form old more) (wants_ahead form new more)
  numbers_lead [] old new took begun draft more =
      subst (Leads (wants_ahead form old more)) (sym (ap (λ s. wants_after form (ahead s more) new.draft) took
      ∙ ap (wants_after form (ahead old.scan more)) draft)) (Leads-refl (wants_ahead form old more))
  numbers_lead (number ∷ numbers) old new (scan, one, rest) begun draft more =
      Leads-then (number_leads form law number old (behind old number scan) one begun refl more)
      (numbers_lead numbers (behind old number scan) new (on_line numbers number old.draft scan new.scan rest)
      (law.stays_begun old.draft number begun) draft more)

-- no read failed
pub took_sound : (numbers : List ℤ) (line : ℕ) (old new : Scan) → TookNumbers numbers line old new → is_faulted old.status ≡ false
    → is_faulted new.status ≡ false
took_sound [] line old new same sound = ap (λ (s : Scan). is_faulted s.status) same ∙ sound
took_sound (number ∷ numbers) line old new (middle, one, rest) sound = took_sound numbers line middle new rest (ap is_faulted one.status)

-- Within a call: the steps from here on are those from the start on.
pub record Stands {Draft Step : Type 0} (form : Form Draft Step) (tells : Bool) (from to : Channel) (first now : ReaderOf Draft) : Type 0 where
  pub same : IsTrue tells → Decides from to (λ bytes more. drafted form (ahead first.scan bytes) first.draft
      ≡ drafted form (ahead now.scan more) now.draft)
  pub scanning : is_scanning now.scan.status ≡ true → is_scanning first.scan.status ≡ true
  pub so_far : IsTrue tells → is_scanning now.scan.status ≡ true → (more : List ℕ) → so_far form first (gained from to ++ more) ≡ so_far form now more
  pub leads : IsTrue tells → Decides from to (λ bytes more. Leads (wants_ahead form first bytes) (wants_ahead form now more))
  pub status : now.status ≡ Reading
  pub line : now.line ≡ first.line
  pub less : fuel now.scan + open_count form now.draft ≤ fuel first.scan + open_count form first.draft

module _ {Draft Step : Type 0} (form : Form Draft Step) where
  same_count : (old new : Draft) → form.is_begun new ≡ form.is_begun old → open_count form new ≡ open_count form old
  same_count old new begun = ap (λ (b : Bool). if b then 1 else 0) begun

  pub Stands-on : {tells : Bool} {from to : Channel} {first old new : ReaderOf Draft} → Stands form tells from to first old → GoesOn form old new
      → ((more : List ℕ) → Leads (wants_ahead form old more) (wants_ahead form new more)) → Stands form tells from to first new
  Stands-on {tells} {from} {to} {first} {old} {new} stands goes leads =
      let count : open_count form new.draft ≡ open_count form old.draft = same_count old.draft new.draft goes.begun in
      record {
        same = λ told. Decides-map (λ bytes more. drafted form (ahead first.scan bytes) first.draft
            ≡ drafted form (ahead new.scan more) new.draft) (stands.same told) (λ bytes more p. p ∙ goes.steps more);
        scanning = λ reading. stands.scanning (sym goes.scanning ∙ reading);
        so_far = λ told reading more. stands.so_far told (sym goes.scanning ∙ reading) more ∙ goes.so_far more;
        leads = λ told. Decides-map (λ bytes more. Leads (wants_ahead form first bytes) (wants_ahead form new more)) (stands.leads told)
            (λ bytes more p. Leads-then p (leads more));
        status = goes.status ∙ stands.status;
        line = goes.line ∙ stands.line;
        less = omega (arith, goes.less, count, stands.less);
      }

  -- nothing happened
  pub Stands-same : {tells : Bool} {from to : Channel} {first old new : ReaderOf Draft} → new ≡ old → Stands form tells from to first old
      → Stands form tells from to first new
  Stands-same {tells} {from} {to} {first} same stands = subst (Stands form tells from to first) (sym same) stands

-- a token of another line, of which the number alone was taken
module _ {Draft Step : Type 0} (form : Form Draft Step) (law : IsForm form) (number : ℤ) (old mid new : ReaderOf Draft) (begins : BeginsLine form number old mid) (r : AnswerOf Step)
    (settles : Settles form r (form.of_number mid.scan.line number) mid new) where
  mid_draft : mid.draft ≡ old.draft
  mid_draft = ap (λ (reader : ReaderOf Draft). reader.draft) begins.rest

  begun : form.is_begun mid.draft ≡ true
  begun = ap form.is_begun mid_draft ∙ begins.begun

  differs : (form.line mid.draft == begins.took.word.line) ≡ false
  differs =
      let other = begins.other in
      let apart : (form.line old.draft == mid.scan.line) ≡ false = grind (arith, nat_tests) in
      ap (λ (draft : Draft). form.line draft == begins.took.word.line) mid_draft ∙ ap (λ n. form.line old.draft == n) begins.took.line ∙ apart

  settles_word : Settles form r (form.of_word begins.took.word) mid new
  settles_word = subst (λ draft. Settles form r draft mid new)
      (sym (law.first_number begins.took.word number begins.took.number_is begins.took.small
      ∙ ap (λ n. form.of_number n number) begins.took.line)) settles

  pub number_gives : (more : List ℕ) → Gives r new.line (drafted form (ahead old.scan more) old.draft) (steps_ahead form new more)
  number_gives more = subst (λ s. Gives r new.line s (steps_ahead form new more))
      (ap (drafted form (next_word begins.took.word (ahead mid.scan more))) mid_draft
      ∙ sym (ap (λ is. drafted form is old.draft) (begins.took.gives more)))
      (before_gives form r begins.took.word mid new settles_word begun differs more)

  pub number_spends : (more : List ℕ) → are_near (length more) (ahead mid.scan more) ≡ true
      → Spends r (length more) (wants_ahead form old more) (wants_ahead form new more)
  number_spends more near = subst (λ w. Spends r (length more) w (wants_ahead form new more))
      (ap (wants_after form (next_word begins.took.word (ahead mid.scan more))) mid_draft
      ∙ sym (ap (λ is. wants_after form is old.draft) (begins.took.gives more)))
      (before_spends form r begins.took.word mid new settles_word begun differs more near)

  pub number_so_far : (first : ReaderOf Draft) (bytes : List ℕ) → (is_scanning old.scan.status ≡ true → is_scanning first.scan.status ≡ true)
      → (is_scanning old.scan.status ≡ true → (more : List ℕ) → so_far form first (bytes ++ more) ≡ so_far form old more)
      → GivesSoFar form r first new bytes
  number_so_far first bytes scanning front =
      let old_scanning : is_scanning old.scan.status ≡ true = ap is_scanning begins.took.reading in
      before_so_far form r begins.took.word first mid new bytes settles_word begun differs (λ _. scanning old_scanning)
      (λ _ more. front old_scanning more ∙ ap (λ is. drafted form (broken_off is) old.draft) (begins.took.so_far more)
      ∙ ap (drafted form (next_word begins.took.word (broken_off (scan_so_far mid.scan more)))) (sym mid_draft))
