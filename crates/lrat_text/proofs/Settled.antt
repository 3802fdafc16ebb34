-- What a call gives once a line is judged: the first of the steps ahead.
use Rattle.std.proofs.Common.{◌≡◌, ◌≤◌, arith, ℕ, Bool, true, false, List, Some, None, Ok, Err, ◌==◌, ◌&&◌, if◌then◌else◌}
use Rattle.std.proofs.Common.{refl, sym, ◌∙◌, ap, subst}
use Rattle.std.specs.Prelude.{nat_lt}
use Rattle.std.proofs.lemmas.Bool.{and_parts}
use Rattle.host_io.specs.Channel.{Channel}
use Rattle.cnf_base.specs.Text.{Word}
use Rattle.text_scan.specs.Items.{Items, the_end, too_long, next_word}
use Rattle.text_scan.specs.Scan.{ahead}
use Rattle.text_scan.specs.Decides.{Decides, Decides-then}
use Rattle.lrat_text.specs.declared.error.StepError.TheVariants.{Syntax, ReadFault, TooLong, OutOfMemory}
use Rattle.lrat_text.specs.declared.reader.ReaderStatus.TheVariants.{Reading, Ended, Failed}
use Rattle.lrat_text.specs.Form.{Form}
use Rattle.lrat_text.specs.LineSteps.{StepsOf, overlong, next_step, step_then}
use Rattle.lrat_text.specs.LineReader.{ReaderOf, AnswerOf, with_token, drafted, Gives, Settles, steps_in, steps_ahead, open_count, is_under}

-- where both sides are the limit
pub same_choice : {X : Type 0} (b : Bool) (x : X) → (if b then x else x) ≡ x
same_choice true x = refl
same_choice false x = refl

not_both : {Step : Type 0} (b t : Bool) (steps : StepsOf Step) → (b && t) ≡ false → (if t then (if b then steps else overlong) else overlong) ≡ overlong
not_both true true steps h = cc
not_both true false steps h = refl
not_both false true steps h = refl
not_both false false steps h = refl

module _ {Draft Step : Type 0} (form : Form Draft Step) where
  -- at a token of another line
  pub before_gives : (r : AnswerOf Step) (word : Word) (old new : ReaderOf Draft) → Settles form r (form.of_word word) old new → form.is_begun old.draft ≡ true
      → (form.line old.draft == word.line) ≡ false
      → (more : List ℕ) → Gives r new.line (drafted form (next_word word (ahead old.scan more)) old.draft) (steps_ahead form new more)
  before_gives (Ok None) word old new s begun differs more = absurd s
  before_gives (Ok (Some (step, at))) word old new s begun differs more = rw (begun, differs, s.0, s.1, s.2) refl
  before_gives (Err (Syntax at)) word old new s begun differs more = (rw (begun, differs, s.0, s.1) refl, rw s.2 refl)
  before_gives (Err TooLong) word old new s begun differs more = absurd s
  before_gives (Err ReadFault) word old new s begun differs more = absurd s
  before_gives (Err OutOfMemory) word old new s begun differs more = tt

  -- what both calls say together: of all bytes and those that follow the first, and of those and what follows the second
  pub call_gives : {a b c : Channel} {Q : List ℕ → List ℕ → Type 0} (r : AnswerOf Step) (old mid new : ReaderOf Draft) → old.status ≡ Reading
      → Decides a b (λ bytes more. drafted form (ahead old.scan bytes) old.draft ≡ drafted form (ahead mid.scan more) mid.draft) → Decides b c Q
      → ((middle more : List ℕ) → Q middle more → Gives r new.line (drafted form (ahead mid.scan middle) mid.draft) (steps_ahead form new more))
      → Decides a c (λ bytes more. Gives r new.line (steps_ahead form old bytes) (steps_ahead form new more))
  call_gives r old mid new reading first second ends =
      Decides-then (λ bytes more. Gives r new.line (steps_ahead form old bytes) (steps_ahead form new more)) first second (λ bytes middle more p q.
      subst (λ s. Gives r new.line s (steps_ahead form new more)) (sym (ap (λ s. steps_in form s old bytes) reading ∙ p)) (ends middle more q))

  -- a token of the line that is begun, or the first of one
  pub token_goes : (draft : Draft) (word : Word) (items : Items) → (form.is_begun draft ≡ true → (form.line draft == word.line) ≡ true)
      → drafted form (next_word word items) draft ≡ drafted form items (with_token form draft word)
  token_goes draft word items same =
      elim (form.is_begun draft) as (λ b. form.is_begun draft ≡ b → drafted form (next_word word items) draft ≡ drafted form items (with_token form draft word)) [
        | true ↦ λ h. rw (h, same h) refl
        | false ↦ λ h. rw h refl
      ] refl

  pub open_small : (draft : Draft) → open_count form draft ≤ 1
  open_small draft = elim (form.is_begun draft) as (λ b. (if b then 1 else 0) ≤ 1) [ true ↦ omega arith | false ↦ omega arith ]

module _ {Draft Step : Type 0} (form : Form Draft Step) (closed : form.is_begun form.no_draft ≡ false) where
  -- at the end
  end_open : (r : AnswerOf Step) (old new : ReaderOf Draft) → Settles form r form.no_draft old new → form.is_begun old.draft ≡ true
      → (more : List ℕ) → ahead old.scan more ≡ the_end old.scan.line
      → Gives r new.line (drafted form (the_end old.scan.line) old.draft) (steps_ahead form new more)
  end_open (Ok None) old new s begun more ended = absurd s
  end_open (Ok (Some (step, at))) old new s begun more ended = rw (begun, s.0, s.1, s.2, ended, closed) refl
  end_open (Err (Syntax at)) old new s begun more ended = (rw (begun, s.0, s.1) refl, rw s.2 refl)
  end_open (Err TooLong) old new s begun more ended = absurd s
  end_open (Err ReadFault) old new s begun more ended = absurd s
  end_open (Err OutOfMemory) old new s begun more ended = tt

  pub end_gives : (r : AnswerOf Step) (old new : ReaderOf Draft) → (form.is_begun old.draft ≡ true → Settles form r form.no_draft old new)
      → (form.is_begun old.draft ≡ false → r ≡ Ok None)
      → (form.is_begun old.draft ≡ false → new ≡ record old { status = Ended; line = old.scan.line })
      → (more : List ℕ) → ahead old.scan more ≡ the_end old.scan.line
      → Gives r new.line (drafted form (the_end old.scan.line) old.draft) (steps_ahead form new more)
  end_gives r old new last none stopped more ended =
      elim (form.is_begun old.draft) as (λ b. form.is_begun old.draft ≡ b → Gives r new.line (drafted form (the_end old.scan.line) old.draft)
      (steps_ahead form new more)) [
        | true ↦ λ h. end_open r old new (last h) h more ended
        | false ↦ λ h. rw (none h, stopped h, h) (refl, refl)
      ] refl

  -- at the limit
  limit_open : (r : AnswerOf Step) (old new : ReaderOf Draft) → Settles form r form.no_draft old new → form.is_begun old.draft ≡ true → nat_lt (form.line old.draft) old.scan.line
      ≡ true
      → (more : List ℕ) → ahead old.scan more ≡ too_long old.scan.line
      → Gives r new.line (drafted form (too_long old.scan.line) old.draft) (steps_ahead form new more)
  limit_open (Ok None) old new s begun under more ended = absurd s
  limit_open (Ok (Some (step, at))) old new s begun under more ended = rw (begun, under, s.0, s.1, s.2, ended, closed)
      (ap (next_step step (form.line old.draft)) (sym (same_choice (nat_lt (form.line form.no_draft) old.scan.line) overlong)))
  limit_open (Err (Syntax at)) old new s begun under more ended = (rw (begun, under, s.0, s.1) refl, rw s.2 refl)
  limit_open (Err TooLong) old new s begun under more ended = absurd s
  limit_open (Err ReadFault) old new s begun under more ended = absurd s
  limit_open (Err OutOfMemory) old new s begun under more ended = tt

  pub limit_gives : (r : AnswerOf Step) (old new : ReaderOf Draft) → (is_under form old ≡ true → Settles form r form.no_draft old new)
      → (is_under form old ≡ false → r ≡ Err TooLong)
      → (is_under form old ≡ false → new ≡ record old { status = Failed TooLong })
      → (more : List ℕ) → ahead old.scan more ≡ too_long old.scan.line
      → Gives r new.line (drafted form (too_long old.scan.line) old.draft) (steps_ahead form new more)
  limit_gives r old new last over stopped more ended =
      elim (is_under form old) as (λ b. is_under form old ≡ b → Gives r new.line (drafted form (too_long old.scan.line) old.draft) (steps_ahead form new more)) [
        | true ↦ λ h.
            let both : (form.is_begun old.draft ≡ true) × (nat_lt (form.line old.draft) old.scan.line ≡ true) = and_parts _ _ h in
            limit_open r old new (last h) both.0 both.1 more ended
        | false ↦ λ h. rw (over h, stopped h) (
          not_both (form.is_begun old.draft) (nat_lt (form.line old.draft) old.scan.line)
              (step_then (form.judged old.draft) (form.line old.draft) overlong) h,
          refl,
        )
      ] refl
