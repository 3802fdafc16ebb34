-- Of a verified proof, what is needed has what each kept step names: a good step names only numbers up to the greatest so far, and later
-- additions have greater ones, so whether one is kept is decided by the steps behind it alone.
use Rattle.std.proofs.Common.{◌≡◌, ℕ, ◌<◌, ◌≤◌, Bool, true, false, ◌||◌, ◌&&◌, ℤ, List, [], ◌∷◌, Some, None, is_some, nat_eq, refl, sym, Option}
use Rattle.std.proofs.Common.{ap, ◌∙◌, arith, eqb-true, length, inl, inr}
use Rattle.std.specs.Prelude.{if◌then◌else◌}
use Rattle.std.proofs.lemmas.Bool.{and_from, cases_lt, false_from_ne_true, or_left, or_right, both_ways}
use Rattle.cnf_base.specs.declared.step.Step.{Step}
use Rattle.cnf_base.specs.declared.step.Step.TheVariants.{Add, Delete}
use Rattle.cnf_base.specs.ProofText.{is_empty}
use Rattle.lrat_text.specs.Steps.{Steps, no_more, overlong, no_step, next_step, steps}
use Rattle.lrat_rules.specs.State.{State, clause_at, start, with_clause}
use Rattle.lrat_rules.specs.Run.{step_fault, after_step, step_adds_empty}
use Rattle.proof_judging.specs.declared.verdict.Verdict.TheVariants.{Verified}
use Rattle.proof_judging.specs.declared.verdict.Verdict.{Verdict}
use Rattle.lrat_checker.specs.TextVerdict.{max_bytes, steps_verdict, text_verdict}
use Rattle.proof_judging.specs.Verdict.{judged}
use Rattle.lrat_rules.specs.declared.outcome.Reason.{Reason}
use Rattle.proof_trim.specs.Trimmed.{cut_step, cut_steps, cut_up_to_end, is_kept, names, needed, none_if, IsClosed}
use Rattle.proof_trim.proofs.Chains.{has_id}
use Rattle.proof_trim.proofs.Additions.{cut-live}
use Rattle.proof_trim.proofs.Replay.{and_none, good_parts, was_there}
use Rattle.proof_trim.proofs.Shadow.{with_at, without_all}

judged_good : (fault : Option Reason) (line : ℕ) (later : Option Verdict) → judged fault line later ≡ Some Verified
    → (fault ≡ None) × (later ≡ Some Verified)
judged_good None line later h = (refl, h)
judged_good (Some reason) line later h = cc

-- no live number is above the greatest so far
abbrev IsBounded : State → Type 0
IsBounded state = (id : ℕ) → is_some (clause_at state.live id) ≡ true → id ≤ state.top

behind : (state : State) (step : Step) → step_fault state step ≡ None → IsBounded state → IsBounded (after_step state step)
behind state (Add id clause hints groups) good bounded x h =
    let above : state.top < id = (good_parts state id clause hints groups good).0 in
    elim (nat_eq x id) as (λ b. nat_eq x id ≡ b → is_some (if b then Some clause else clause_at state.live x) ≡ true → x ≤ id) [
      | true ↦ λ own _. (let same : x ≡ id = eqb-true x id own in omega (arith, same))
      | false ↦ λ _ there. omega (arith, bounded x there, above)
    ] refl (sym (ap is_some (with_at state.live id clause x)) ∙ h)
behind state (Delete id ids) good bounded x h =
    bounded x (was_there (has_id ids x) (clause_at state.live x) (sym (ap is_some (without_all state.live ids x)) ∙ h))

-- a good step, cut, names no greater number
names_none_above : (state : State) (step : Step) → step_fault state step ≡ None → IsBounded state → (x : ℕ) → state.top < x
    → names (cut_step state step) x ≡ false
names_none_above state (Add id clause hints groups) good bounded x above =
    false_from_ne_true _ (λ named.
    let live = cut-live state.live clause hints groups (good_parts state id clause hints groups good).1 x named in
    omega (arith, above, bounded x live))
names_none_above state (Delete id ids) good bounded x above = refl

-- What a whole proof needs, at a state of it: at least what the steps ahead need, and of greater numbers nothing else.
record IsAhead (needs : ℕ → Bool) (state : State) (ahead : List Step) : Type 0 where
  pub within : (id : ℕ) → needed ahead id ≡ true → needs id ≡ true
  pub later : (id : ℕ) → state.top < id → needs id ≡ needed ahead id

module _ (needs : ℕ → Bool) (state : State) (step : Step) (rest : List Step) (good : step_fault state step ≡ None) (bounded : IsBounded state)
    (ahead : IsAhead needs state (cut_step state step ∷ rest)) where
  needed_behind : (x : ℕ) → state.top < x → needs x ≡ needed rest x
  needed_behind x above =
      ahead.later x above
      ∙ and_none (is_kept (needed rest) (cut_step state step)) (names (cut_step state step) x) (needed rest x)
      (names_none_above state step good bounded x above)

  -- the step is kept where the steps behind it need it
  kept_behind : is_kept needs (cut_step state step) ≡ true → is_kept (needed rest) (cut_step state step) ≡ true
  kept_behind = of step good where
    of : (own : Step) → step_fault state own ≡ None → is_kept needs (cut_step state own) ≡ true
        → is_kept (needed rest) (cut_step state own) ≡ true
    of (Add id clause hints groups) fine h =
        ap (λ (b : Bool). is_empty clause || b) (sym (needed_behind id (good_parts state id clause hints groups fine).0)) ∙ h
    of (Delete id ids) fine h = refl

  names_needed : (x : ℕ) → is_kept needs (cut_step state step) ≡ true → names (cut_step state step) x ≡ true → needs x ≡ true
  names_needed x kept named = ahead.within x (or_left _ (needed rest x) (and_from _ _ (kept_behind kept) named))

  top_grows : state.top ≤ (after_step state step).top
  top_grows = of step good where
    of : (own : Step) → step_fault state own ≡ None → state.top ≤ (after_step state own).top
    of (Add id clause hints groups) fine = let above : state.top < id = (good_parts state id clause hints groups fine).0 in omega arith
    of (Delete id ids) fine = omega arith

  next_ahead : IsAhead needs (after_step state step) rest
  next_ahead = record {
    within = λ x h. ahead.within x (or_right _ (needed rest x) h);
    later = λ x above. needed_behind x (omega (arith, top_grows, above));
  }

closed_from : (needs : ℕ → Bool) (steps : Steps) (state : State) → steps_verdict state false steps ≡ Some Verified → IsBounded state
    → IsAhead needs state (cut_steps state steps) → IsClosed (cut_steps state steps) needs
closed_from needs (no_more line) state verified bounded ahead = tt
closed_from needs overlong state verified bounded ahead = tt
closed_from needs (no_step line) state verified bounded ahead = tt
closed_from needs (next_step step line steps) state verified bounded ahead =
    let both = judged_good (step_fault state step) line _ verified in
    let after = after_step state step in
    let rest = none_if (step_adds_empty step) (cut_steps after steps) in (
      names_needed needs state step rest both.0 bounded ahead,
      elim (step_adds_empty step)
          as (λ b. IsAhead needs after (none_if b (cut_steps after steps)) → steps_verdict after b steps ≡ Some Verified
          → IsClosed (none_if b (cut_steps after steps)) needs) [
            | true ↦ λ _ _. tt
            | false ↦ λ next good. closed_from needs steps after good (behind state step both.0 bounded) next
          ] (next_ahead needs state step rest both.0 bounded ahead) both.1,
    )

pub closed : ((clauses : List (List ℤ)) (id : ℕ) → length clauses < id → clause_at (start clauses).live id ≡ None)
    → (clauses : List (List ℤ)) (bytes : List ℕ) → text_verdict clauses bytes ≡ Some Verified
    → IsClosed (cut_up_to_end clauses bytes) (needed (cut_up_to_end clauses bytes))
closed none_above clauses bytes verified =
    closed_from (needed (cut_up_to_end clauses bytes)) (steps max_bytes bytes) (start clauses) verified
    (λ id h. elim (cases_lt (length clauses) id) [
      | inl above ↦ absurd (both_ways (is_some (clause_at (start clauses).live id)) (ap is_some (none_above clauses id above)) h)
      | inr within ↦ within
    ])
    (record { within = λ id h. h; later = λ id above. refl })
