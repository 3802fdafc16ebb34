-- What a reader may want memory for is near, and goes on token by token.
use Rattle.std.proofs.Common.{◌≡◌, ℕ, ◌+◌, ◌-◌, ◌≤◌, Bool, true, false, ◌||◌, ◌==◌, if◌then◌else◌, List, length}
use Rattle.std.proofs.Common.{Option, None, Some, Result, Ok, Err, IsTrue, refl, sym, ◌∙◌, ap, subst, arith}
use Rattle.std.specs.Result.{IsErrAnd}
use Rattle.std.specs.Prelude.{nat_lt, is_some}
use Rattle.std.proofs.lemmas.Bool.{and_parts}
use Rattle.std.proofs.lemmas.Bool.Decides.{nat_tests}
use Rattle.host_io.specs.Channel.{Channel}
use Rattle.cnf_base.specs.Text.{Word}
use Rattle.text_scan.specs.Items.{Items, the_end, too_long, next_word}
use Rattle.text_scan.specs.Near.{words_in, is_near as are_near}
use Rattle.text_scan.specs.Scan.{ahead}
use Rattle.text_scan.specs.Decides.{Decides, Decides-then}
use Rattle.lrat_text.specs.declared.error.StepError.{StepError}
use Rattle.lrat_text.specs.declared.error.StepError.TheVariants.{Syntax, ReadFault, TooLong, OutOfMemory}
use Rattle.lrat_text.specs.Form.{Form}
use Rattle.lrat_text.specs.LineSteps.{StepsOf}
use Rattle.lrat_text.specs.LineReader.{ReaderOf, AnswerOf, with_token, Gives, Settles, given, is_under}
use Rattle.lrat_text.specs.LineWants.{WantsOf, no_further, for_number, number_then, spelled_then, ended_then, wants_after}
use Rattle.lrat_text.specs.LineWants.{wants_ahead, numbers_in, is_near, may_want, Spends, Leads}
use Rattle.lrat_text.proofs.Settled.{same_choice}

-- No more numbers are kept than there are tokens.
spelled_fewer : {Step : Type 0} (step : Option Step) (wants : WantsOf Step) → numbers_in (spelled_then step wants) ≤ numbers_in wants
spelled_fewer None wants = omega arith
spelled_fewer (Some step) wants = omega arith

module _ {Draft Step : Type 0} (form : Form Draft Step) where
  number_more : (draft : Draft) (wants : WantsOf Step) → numbers_in (number_then form draft wants) ≤ numbers_in wants + 1
  number_more draft wants = elim (form.keeps_number draft) as (λ b. numbers_in (if b then for_number wants else wants)
      ≤ numbers_in wants + 1) [ true ↦ omega arith | false ↦ omega arith ]

  ended_fewer : (draft : Draft) (wants : WantsOf Step) → numbers_in (ended_then form draft wants) ≤ numbers_in wants
  ended_fewer draft wants = elim (form.is_begun draft) as (λ b. numbers_in (if b then spelled_then (form.judged draft) wants else wants)
      ≤ numbers_in wants) [ true ↦ spelled_fewer (form.judged draft) wants | false ↦ omega arith ]

  numbers_fewer : (items : Items) (draft : Draft) → numbers_in (wants_after form items draft) ≤ words_in items
  numbers_fewer (the_end line) draft = ended_fewer draft no_further
  numbers_fewer (too_long line) draft = elim (nat_lt (form.line draft) line) as (λ b. numbers_in
      (if b then ended_then form draft no_further else no_further) ≤ 0) [ true ↦ ended_fewer draft no_further | false ↦ omega arith ]
  numbers_fewer (next_word word items) draft =
      let kept : WantsOf Step = wants_after form items (form.with_word draft word) in
      let behind : WantsOf Step = wants_after form items (form.of_word word) in
      let kept_fewer : numbers_in kept ≤ words_in items = numbers_fewer items (form.with_word draft word) in
      let behind_fewer : numbers_in behind ≤ words_in items = numbers_fewer items (form.of_word word) in
      let here : numbers_in (number_then form (form.with_word draft word) kept) ≤ numbers_in kept + 1 = number_more _ kept in
      let there : numbers_in (spelled_then (form.judged draft) behind) ≤ numbers_in behind = spelled_fewer (form.judged draft) behind in
      elim (form.is_begun draft) as (λ b. numbers_in (if b then (if form.line draft == word.line then number_then form (form.with_word draft word) kept
      else spelled_then (form.judged draft) behind) else behind) ≤ words_in items + 1) [
        | true ↦ elim (form.line draft == word.line) as (λ b. numbers_in (if b then number_then form (form.with_word draft word) kept
            else spelled_then (form.judged draft) behind) ≤ words_in items + 1) [
              | true ↦ omega (arith, here, kept_fewer)
              | false ↦ omega (arith, there, behind_fewer)
            ]
        | false ↦ omega (arith, behind_fewer)
      ]

  pub near_ahead : (items : Items) (draft : Draft) (more : ℕ) → are_near more items ≡ true
      → is_near more (wants_after form items draft) ≡ true
  near_ahead items draft more near =
      let count : ℕ = numbers_in (wants_after form items draft) in
      let fewer : count ≤ words_in items = numbers_fewer items draft in
      grind (arith, nat_tests)

-- From one moment within a line to a later one.
pub Leads-refl : {Step : Type 0} (wants : WantsOf Step) → Leads wants wants
Leads-refl wants = record { same = refl; wants = λ more w. w }

pub Leads-then : {Step : Type 0} {a b c : WantsOf Step} → Leads a b → Leads b c → Leads a c
Leads-then p q = record { same = p.same ∙ q.same; wants = λ more w. p.wants more (q.wants more w) }

pub Leads-by : {Step : Type 0} {a b c d : WantsOf Step} → a ≡ b → Leads b c → c ≡ d → Leads a d
Leads-by {Step} {a} {b} {c} {d} from leads to = subst (λ w. Leads w d) (sym from) (subst (λ w. Leads b w) to leads)

or_true : (b : Bool) → (b || true) ≡ true
or_true true = refl
or_true false = refl

module _ {Draft Step : Type 0} (form : Form Draft Step) where
  Leads-number : (draft : Draft) (wants : WantsOf Step) → Leads (number_then form draft wants) wants
  Leads-number draft wants = elim (form.keeps_number draft) as (λ b. Leads (if b then for_number wants else wants) wants) [
    | true ↦ record { same = refl; wants = λ more w. rw w (or_true (is_near more wants)) }
    | false ↦ Leads-refl wants
  ]

  -- a token of the line that is begun, or the first of one
  pub token_leads : (draft : Draft) (word : Word) (items : Items) → (form.is_begun draft ≡ true → (form.line draft == word.line) ≡ true)
      → Leads (wants_after form (next_word word items) draft) (wants_after form items (with_token form draft word))
  token_leads draft word items same =
      elim (form.is_begun draft) as (λ b. form.is_begun draft ≡ b → Leads (wants_after form (next_word word items) draft)
      (wants_after form items (with_token form draft word))) [
        | true ↦ λ h. rw (h, same h) (Leads-number (form.with_word draft word) (wants_after form items (form.with_word draft word)))
        | false ↦ λ h. rw h (Leads-refl (wants_after form items (form.of_word word)))
      ] refl

  -- one for whose number memory was wanted
  pub token_wants : (more : ℕ) (draft : Draft) (word : Word) (items : Items) → form.is_begun draft ≡ true → (form.line draft == word.line) ≡ true
      → form.keeps_number (form.with_word draft word) ≡ true → is_near more (wants_after form items (form.with_word draft word)) ≡ true
      → IsTrue (may_want more (wants_after form (next_word word items) draft))
  token_wants more draft word items begun same keeps near = rw (begun, same, keeps, near) refl

  -- A line that is ended.
  settled_spends : (r : AnswerOf Step) (next : Draft) (old new : ReaderOf Draft) → Settles form r next old new → (more : List ℕ)
      → is_near (length more) (wants_after form (ahead old.scan more) next) ≡ true
      → Spends r (length more) (spelled_then (form.judged old.draft) (wants_after form (ahead old.scan more) next)) (wants_ahead form new more)
  settled_spends (Ok None) next old new s more near = tt
  settled_spends (Ok (Some (step, at))) next old new s more near = rw (s.0, s.2) refl
  settled_spends (Err (Syntax at)) next old new s more near = tt
  settled_spends (Err TooLong) next old new s more near = tt
  settled_spends (Err ReadFault) next old new s more near = tt
  settled_spends (Err OutOfMemory) next old new s more near =
      elim (form.judged old.draft) as (λ (j : Option Step). is_some j ≡ true
      → IsTrue (may_want (length more) (spelled_then j (wants_after form (ahead old.scan more) next)))) [
        | None ↦ λ h. cc
        | Some step ↦ λ h. near
      ] s.0

  -- at a token of another line
  pub before_spends : (r : AnswerOf Step) (word : Word) (old new : ReaderOf Draft) → Settles form r (form.of_word word) old new → form.is_begun old.draft ≡ true
      → (form.line old.draft == word.line) ≡ false
      → (more : List ℕ) → are_near (length more) (ahead old.scan more) ≡ true
      → Spends r (length more) (wants_after form (next_word word (ahead old.scan more)) old.draft) (wants_ahead form new more)
  before_spends r word old new s begun differs more near =
      rw (begun, differs) (settled_spends r (form.of_word word) old new s more
      (near_ahead form (ahead old.scan more) (form.of_word word) (length more) near))

none_near : (Step : Type 0) (more : ℕ) → is_near {Step = Step} more no_further ≡ true
none_near Step more = grind (arith, nat_tests)

module _ {Draft Step : Type 0} (form : Form Draft Step) (closed : form.is_begun form.no_draft ≡ false) where
  -- at the end
  pub end_spends : (r : AnswerOf Step) (old new : ReaderOf Draft) → (form.is_begun old.draft ≡ true → Settles form r form.no_draft old new)
      → (form.is_begun old.draft ≡ false → r ≡ Ok None)
      → (more : List ℕ) → ahead old.scan more ≡ the_end old.scan.line
      → Spends r (length more) (wants_after form (the_end old.scan.line) old.draft) (wants_ahead form new more)
  end_spends r old new last none more ended =
      elim (form.is_begun old.draft) as (λ b. form.is_begun old.draft ≡ b → Spends r (length more) (wants_after form (the_end old.scan.line) old.draft)
      (wants_ahead form new more)) [
        | true ↦ λ h.
            let near : is_near (length more) (wants_after form (ahead old.scan more) form.no_draft) ≡ true = rw (ended, closed) (none_near Step (length more)) in
            let spends = settled_spends form r form.no_draft old new (last h) more near in
            rw h (rw (ended, closed) at spends)
        | false ↦ λ h. rw (none h) tt
      ] refl

  -- at the limit
  no_line : (line : ℕ) → wants_after form (too_long line) form.no_draft ≡ no_further
  no_line line = rw closed (same_choice (nat_lt (form.line form.no_draft) line) no_further)

  pub limit_spends : (r : AnswerOf Step) (old new : ReaderOf Draft) → (is_under form old ≡ true → Settles form r form.no_draft old new)
      → (is_under form old ≡ false → r ≡ Err TooLong)
      → (more : List ℕ) → ahead old.scan more ≡ too_long old.scan.line
      → Spends r (length more) (wants_after form (too_long old.scan.line) old.draft) (wants_ahead form new more)
  limit_spends r old new last over more ended =
      let none : wants_after form (ahead old.scan more) form.no_draft ≡ no_further = ap (λ is. wants_after form is form.no_draft) ended
      ∙ no_line old.scan.line in
      elim (is_under form old) as (λ b. is_under form old ≡ b → Spends r (length more) (wants_after form (too_long old.scan.line) old.draft)
      (wants_ahead form new more)) [
        | true ↦ λ h.
            let both : (form.is_begun old.draft ≡ true) × (nat_lt (form.line old.draft) old.scan.line ≡ true) = and_parts _ _ h in
            let near : is_near (length more) (wants_after form (ahead old.scan more) form.no_draft) ≡ true = rw none (none_near Step (length more)) in
            rw (both.0, both.1) (subst (λ w. Spends r (length more) (spelled_then (form.judged old.draft) w) (wants_ahead form new more)) none
            (settled_spends form r form.no_draft old new (last h) more near))
        | false ↦ λ h. rw (over h) tt
      ] refl

-- Memory was wanted, and the error is handed on.
pub handed_spends : {Step : Type 0} (step : Step) (r : Result (Option ℕ) StepError) (error : StepError) → IsErrAnd r (λ f. f ≡ error) → error ≡ OutOfMemory
    → (more : ℕ) (before after : WantsOf Step) → IsTrue (may_want more before) → Spends (given step r) more before after
handed_spends step (Ok answer) error is because more before after wants = absurd is
handed_spends step (Err came) error is because more before after wants = rw (is ∙ because) wants

pub handed_gives : {Step : Type 0} (step : Step) (r : Result (Option ℕ) StepError) (error : StepError) → IsErrAnd r (λ f. f ≡ error)
    → error ≡ OutOfMemory → (line : ℕ) (before after : StepsOf Step) → Gives (given step r) line before after
handed_gives step (Ok answer) error is because line before after = absurd is
handed_gives step (Err came) error is because line before after = rw (is ∙ because) tt

-- Two calls in turn.
pub led : {Step : Type 0} (r : AnswerOf Step) (more : ℕ) (before middle after : WantsOf Step) → Leads before middle → Spends r more middle after
    → Spends r more before after
led (Ok None) more before middle after leads spends = tt
led (Ok (Some (step, at))) more before middle after leads spends = leads.same ∙ spends
led (Err (Syntax at)) more before middle after leads spends = tt
led (Err TooLong) more before middle after leads spends = tt
led (Err ReadFault) more before middle after leads spends = tt
led (Err OutOfMemory) more before middle after leads spends = leads.wants more spends

module _ {Draft Step : Type 0} (form : Form Draft Step) where
  pub call_spends : {a b c : Channel} {Q : List ℕ → List ℕ → Type 0} (r : AnswerOf Step) (old mid new : ReaderOf Draft)
      → Decides a b (λ bytes more. Leads (wants_ahead form old bytes) (wants_ahead form mid more)) → Decides b c Q
      → ((middle more : List ℕ) → Q middle more → Spends r (length more) (wants_ahead form mid middle) (wants_ahead form new more))
      → Decides a c (λ bytes more. Spends r (length more) (wants_ahead form old bytes) (wants_ahead form new more))
  call_spends r old mid new first second ends =
      Decides-then (λ bytes more. Spends r (length more) (wants_ahead form old bytes) (wants_ahead form new more)) first second
      (λ bytes middle more p q. led r (length more) (wants_ahead form old bytes) (wants_ahead form mid middle) (wants_ahead form new more) p
      (ends middle more q))
