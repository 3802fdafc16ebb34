-- The trimmed form of a verified proof, step by step beside the proof: each step is good at its turn, and trimming cuts it no more.
use Rattle.std.proofs.Common.{◌≡◌, ℕ, ◌+◌, ◌<◌, ◌≤◌, Bool, true, false, ◌||◌, ◌&&◌, ℤ, List, [], ◌∷◌, ◌++◌, Option, Some, None, is_some}
use Rattle.std.proofs.Common.{nat_eq, refl, sym, ap, ◌∙◌, inl, inr, arith, eqb-true, nat_le}
use Rattle.std.specs.Prelude.{⊤, if◌then◌else◌}
use Rattle.std.specs.List.{list_any}
use Rattle.std.proofs.lemmas.Bool.{cases_Bool, or_left, or_right, leb-false, lt-leb}
use Rattle.cnf_base.specs.declared.list.Group.{Group}
use Rattle.cnf_base.specs.declared.step.Step.{Step}
use Rattle.cnf_base.specs.declared.step.Step.TheVariants.{Add, Delete}
use Rattle.lrat_text.specs.Steps.{Steps, no_more, overlong, no_step, next_step}
use Rattle.lrat_rules.specs.declared.outcome.Reason.{Reason}
use Rattle.lrat_rules.specs.declared.outcome.Reason.TheVariants.{IdNotGreater}
use Rattle.lrat_rules.specs.State.{State, clause_at, with_clause, without_clauses}
use Rattle.lrat_rules.specs.Chain.{literals_of, chain}
use Rattle.lrat_rules.specs.Addition.{fault, fault_after_hints}
use Rattle.lrat_rules.specs.Derivation.{lines_from}
use Rattle.lrat_rules.specs.Run.{Reached, run, judge_step, step_fault, after_step, step_adds_empty}
use Rattle.proof_judging.specs.declared.verdict.Verdict.{Verdict}
use Rattle.proof_judging.specs.declared.verdict.Verdict.TheVariants.{Verified}
use Rattle.proof_judging.specs.Verdict.{judged}
use Rattle.lrat_checker.specs.TextVerdict.{steps_verdict}
use Rattle.lrat_checker.specs.Cuts.{Cut, cut_of}
use Rattle.proof_trim.specs.Trimmed.{live_ids, cut_addition, cut_step, none_if, cut_steps, needed, kept, deletion_of, is_there}
use Rattle.proof_trim.specs.Trimmed.{trimmed_steps}
use Rattle.proof_trim.proofs.Chains.{has_id}
use Rattle.proof_trim.proofs.Additions.{cut_names, good-cut, cut_again, cut-live}
use Rattle.proof_trim.proofs.Shadow.{with_at, without_all, IsShadow, shadow_less, shadow-with, shadow-skip, shadow-without, ids_left}
use Rattle.proof_trim.proofs.Shadow.{left_again}

-- these steps as a reader gives them
abbrev pub as_steps : Steps → ℕ → List Step → Steps
as_steps behind line [] = behind
as_steps behind line (step ∷ steps) = next_step step line (as_steps behind (line + 1) steps)

-- each of the steps is good at its turn, and cut no more
abbrev pub AreGood : State → List Step → Type 0
AreGood state [] = ⊤
AreGood state (step ∷ steps) = (step_fault state step ≡ None) × (cut_step state step ≡ step) × AreGood (after_step state step) steps

-- Steps that are good from a state on, the last of which adds the empty clause, and which are cut no more.
pub record Replays (state : State) (steps : List Step) : Type 0 where
  pub end : State
  pub reached : (line : ℕ) → run state (lines_from line steps) ≡ Reached end
  pub empty : list_any step_adds_empty steps ≡ true
  pub again : (behind : Steps) (line : ℕ) → cut_steps state (as_steps behind line steps) ≡ steps
  pub each : AreGood state steps

replays_end : (state : State) (step : Step) → step_fault state step ≡ None → cut_step state step ≡ step → step_adds_empty step ≡ true
    → Replays state (step ∷ [])
replays_end state step good same ends = record {
  end = after_step state step;
  reached = λ line. ap (judge_step state line (λ s. Reached s) step) good;
  empty = ap (λ (b : Bool). b || false) ends;
  again = λ behind line. λ i. same i ∷ none_if (ends i) (cut_steps (after_step state step) behind);
  each = (good, same, tt);
}

replays_on : (state : State) (step : Step) (steps : List Step) → step_fault state step ≡ None → cut_step state step ≡ step
    → step_adds_empty step ≡ false → Replays (after_step state step) steps → Replays state (step ∷ steps)
replays_on state step steps good same ends rest = record {
  end = rest.end;
  reached = λ line. ap (judge_step state line (λ s. run s (lines_from (line + 1) steps)) step) good ∙ rest.reached (line + 1);
  empty = ap (λ (b : Bool). b || list_any step_adds_empty steps) ends ∙ rest.empty;
  again = λ behind line. (λ i. same i ∷ none_if (ends i) (cut_steps (after_step state step) (as_steps behind (line + 1) steps)))
      ∙ ap (λ (l : List Step). step ∷ l) (rest.again behind (line + 1));
  each = (good, same, rest.each);
}

-- a good addition has a greater number, and its hints and groups are good
pub good_parts : (state : State) (id : ℕ) (clause : List ℤ) (hints : List ℕ) (groups : List Group)
    → fault state id clause hints groups ≡ None
    → (state.top < id) × (fault_after_hints state.live clause groups (chain state.live (literals_of clause) hints) ≡ None)
good_parts state id clause hints groups none =
    elim (nat_le id state.top) as (λ b. nat_le id state.top ≡ b → (if b then Some IdNotGreater
    else fault_after_hints state.live clause groups (chain state.live (literals_of clause) hints)) ≡ None
    → (state.top < id) × (fault_after_hints state.live clause groups (chain state.live (literals_of clause) hints) ≡ None)) [
      | true ↦ λ is h. cc
      | false ↦ λ is h. (leb-false id state.top is, h)
    ] refl none

-- The proof's state, and that of its trimmed form.
pub record Beside (count : ℕ) (there : ℕ → Bool) (state other : State) : Type 0 where
  pub shadow : IsShadow there state.live other.live
  pub top : other.top ≤ state.top
  pub below : (id : ℕ) → is_some (clause_at state.live id) ≡ true → id ≤ state.top
  pub formula : count ≤ state.top

pub was_there : (b : Bool) (p : Option (List ℤ)) → is_some (if b then None else p) ≡ true → is_some p ≡ true
was_there true p h = cc
was_there false p h = h

pub and_none : (a b c : Bool) → b ≡ false → ((a && b) || c) ≡ c
and_none true b c e = ap (λ (d : Bool). d || c) e
and_none false b c e = refl

module _ (count : ℕ) (needs : ℕ → Bool) where
  abbrev there : ℕ → Bool
  there = is_there count needs

  -- what is needed is there
  there_of : (id : ℕ) → needs id ≡ true → there id ≡ true
  there_of id h = or_right (nat_le id count) (needs id) h

  -- One good addition, cut, is good in the trimmed form where what it names is needed, and is cut no more.
  module _ (state other : State) (beside : Beside count there state other) (id : ℕ) (clause : List ℤ) (hints : List ℕ) (groups : List Group)
      (good : fault state id clause hints groups ≡ None) where
    abbrev cut : Cut
    cut = cut_of state.live clause hints groups

    parts : (state.top < id) × (fault_after_hints state.live clause groups (chain state.live (literals_of clause) hints) ≡ None)
    parts = good_parts state id clause hints groups good

    module _ (needed_names : (x : ℕ) → cut_names cut x ≡ true → needs x ≡ true) where
      agrees : (x : ℕ) → cut_names cut x ≡ true → clause_at other.live x ≡ clause_at state.live x
      agrees x h = beside.shadow.same x (there_of x (needed_names x h))

      kept_good : fault other id clause cut.pos cut.groups ≡ None
      kept_good =
          let above : nat_le id other.top ≡ false = lt-leb id other.top (omega (arith, parts.0, beside.top)) in
          ap (λ (b : Bool). if b then Some IdNotGreater
          else fault_after_hints other.live clause cut.groups (chain other.live (literals_of clause) cut.pos)) above
          ∙ good-cut state.live other.live (shadow_less beside.shadow) clause hints groups parts.1 agrees

      kept_again : cut_step other (cut_addition id clause cut) ≡ cut_addition id clause cut
      kept_again = ap (cut_addition id clause) (cut_again state.live other.live (shadow_less beside.shadow) clause hints groups parts.1
          agrees)

    -- behind it
    behind_below : (x : ℕ) → is_some (clause_at (with_clause state.live id clause) x) ≡ true → x ≤ id
    behind_below x h =
        elim (nat_eq x id) as (λ b. nat_eq x id ≡ b → is_some (if b then Some clause else clause_at state.live x) ≡ true → x ≤ id) [
          | true ↦ λ own g. (let same : x ≡ id = eqb-true x id own in omega (arith, same))
          | false ↦ λ apart g. omega (arith, beside.below x g, parts.0)
        ] refl (sym (ap is_some (with_at state.live id clause x)) ∙ h)

    beside_kept : there id ≡ true → Beside count there (after_step state (Add id clause hints groups))
        (after_step other (cut_addition id clause cut))
    beside_kept is = record {
      shadow = shadow-with beside.shadow id clause is;
      top = omega arith;
      below = behind_below;
      formula = omega (arith, beside.formula, parts.0);
    }

    beside_skipped : there id ≡ false → Beside count there (after_step state (Add id clause hints groups)) other
    beside_skipped missing = record {
      shadow = shadow-skip beside.shadow id clause missing;
      top = omega (arith, beside.top, parts.0);
      below = behind_below;
      formula = omega (arith, beside.formula, parts.0);
    }

    -- it names no number above those before
    no_later_name : (x : ℕ) → state.top < x → cut_names cut x ≡ false
    no_later_name x above =
        elim (cases_Bool (cut_names cut x)) [
          | inl h ↦ absurd (omega (arith, above, beside.below x (cut-live state.live clause hints groups parts.1 x h)))
          | inr h ↦ h
        ]

    -- what later steps need of later numbers
    fresh_on : (keeps : Bool) (rest : List Step) → ((x : ℕ) → state.top < x → needs x ≡ ((keeps && cut_names cut x) || needed rest x))
        → (x : ℕ) → id < x → needs x ≡ needed rest x
    fresh_on keeps rest fresh x above =
        let higher : state.top < x = omega (arith, above, parts.0) in
        fresh x higher ∙ and_none keeps (cut_names cut x) (needed rest x) (no_later_name x higher)

  -- The steps that are left of the proof, and what they need.
  pub record Ahead (state : State) (rest : List Step) : Type 0 where
    pub within : (id : ℕ) → needed rest id ≡ true → needs id ≡ true
    pub fresh : (id : ℕ) → state.top < id → needs id ≡ needed rest id

  abbrev trimmed_rest : List Step → List Step
  trimmed_rest steps = trimmed_steps count needs (kept steps)

  -- the rest of a proof behind an addition that doesn't end it
  addition_on : (state other : State) (id : ℕ) (literal : ℤ) (literals : List ℤ) (hints : List ℕ) (groups : List Group) (rest : List Step)
      → Beside count there state other → fault state id (literal ∷ literals) hints groups ≡ None
      → Ahead state (cut_addition id (literal ∷ literals) (cut_of state.live (literal ∷ literals) hints groups) ∷ rest)
      → ((next : State) → Beside count there (after_step state (Add id (literal ∷ literals) hints groups)) next
      → Ahead (after_step state (Add id (literal ∷ literals) hints groups)) rest → Replays next (trimmed_rest rest))
      → Replays other (trimmed_rest (cut_addition id (literal ∷ literals) (cut_of state.live (literal ∷ literals) hints groups) ∷ rest))
  addition_on state other id literal literals hints groups rest beside good ahead later =
      let clause : List ℤ = literal ∷ literals in
      let short : Cut = cut_of state.live clause hints groups in
      let step : Step = cut_addition id clause short in
      elim (needed rest id) as (λ b. needed rest id ≡ b
      → Replays other (trimmed_steps count needs (if b then step ∷ kept rest else kept rest))) [
        | true ↦ λ is.
            let named : (x : ℕ) → cut_names short x ≡ true → needs x ≡ true =
            λ x h. ahead.within x (or_left (needed rest id && cut_names short x) (needed rest x)
            ((λ i. is i && cut_names short x) ∙ h)) in
            let here : there id ≡ true = there_of id (ahead.within id
            (or_right (needed rest id && cut_names short id) (needed rest id) is)) in
            replays_on other step (trimmed_rest rest)
            (kept_good state other beside id clause hints groups good named)
            (kept_again state other beside id clause hints groups good named) refl
            (later (after_step other step) (beside_kept state other beside id clause hints groups good here)
            (record {
              within = λ x h. ahead.within x (or_right (needed rest id && cut_names short x) (needed rest x) h);
              fresh = fresh_on state other beside id clause hints groups good (needed rest id) rest ahead.fresh;
            }))
        | false ↦ λ is.
            let numbers = good_parts state id clause hints groups good in
            let none : needs id ≡ false = ahead.fresh id numbers.0
            ∙ ap (λ (b : Bool). (b && cut_names short id) || needed rest id) is ∙ is in
            let above : nat_le id count ≡ false = lt-leb id count (omega (arith, numbers.0, beside.formula)) in
            let missing : there id ≡ false = λ i. above i || none i in
            later other (beside_skipped state other beside id clause hints groups good missing)
            (record {
              within = λ x h. ahead.within x (or_right (needed rest id && cut_names short x) (needed rest x) h);
              fresh = fresh_on state other beside id clause hints groups good (needed rest id) rest ahead.fresh;
            })
      ] refl

  -- behind a deletion
  deletion_on : (state other : State) (id : ℕ) (ids : List ℕ) (rest : List Step) → Beside count there state other
      → Ahead state (Delete id (live_ids state.live ids) ∷ rest)
      → ((next : State) → Beside count there (after_step state (Delete id ids)) next → Ahead (after_step state (Delete id ids)) rest
      → Replays next (trimmed_rest rest))
      → Replays other (trimmed_rest (Delete id (live_ids state.live ids) ∷ rest))
  deletion_on state other id ids rest beside ahead later =
      let left : List ℕ = ids_left there state.live ids in
      let shadow : IsShadow there (without_clauses state.live ids) (without_clauses other.live left) = shadow-without beside.shadow ids in
      let below : (x : ℕ) → is_some (clause_at (without_clauses state.live ids) x) ≡ true → x ≤ state.top =
      λ x h. beside.below x (was_there (has_id ids x) (clause_at state.live x) (sym (ap is_some (without_all state.live ids x)) ∙ h)) in
      let next_ahead : Ahead (after_step state (Delete id ids)) rest = record { within = ahead.within; fresh = ahead.fresh } in
      elim left as (λ l. left ≡ l → live_ids other.live l ≡ l
      → IsShadow there (without_clauses state.live ids) (without_clauses other.live l)
      → Replays other (deletion_of id l ++ trimmed_rest rest)) [
        | [] ↦ λ is again s. later other (record { shadow = s; top = beside.top; below = below; formula = beside.formula }) next_ahead
        | first ∷ more ↦ λ is again s.
            replays_on other (Delete id (first ∷ more)) (trimmed_rest rest) refl (ap (Delete id) again) refl
            (later (after_step other (Delete id (first ∷ more)))
            (record { shadow = s; top = beside.top; below = below; formula = beside.formula }) next_ahead)
      ] refl (left_again there ids state.live other.live beside.shadow) shadow

  -- the end
  addition_ends : (state other : State) (id : ℕ) (hints : List ℕ) (groups : List Group) → Beside count there state other
      → fault state id [] hints groups ≡ None → Ahead state (cut_addition id [] (cut_of state.live [] hints groups) ∷ [])
      → Replays other (cut_addition id [] (cut_of state.live [] hints groups) ∷ [])
  addition_ends state other id hints groups beside good ahead =
      let short : Cut = cut_of state.live [] hints groups in
      let named : (x : ℕ) → cut_names short x ≡ true → needs x ≡ true = λ x h. ahead.within x (or_left (cut_names short x) false h) in
      replays_end other (cut_addition id [] short) (kept_good state other beside id [] hints groups good named)
      (kept_again state other beside id [] hints groups good named) refl

  -- the verdict's parts
  judged_good : (fault : Option Reason) (line : ℕ) (later : Option Verdict) → judged fault line later ≡ Some Verified
      → (fault ≡ None) × (later ≡ Some Verified)
  judged_good None line later h = (refl, h)
  judged_good (Some reason) line later h = cc

  -- All steps of a proof that is verified.
  pub replays : (steps : Steps) (state other : State) → steps_verdict state false steps ≡ Some Verified → Beside count there state other
      → Ahead state (cut_steps state steps) → Replays other (trimmed_rest (cut_steps state steps))
  replays (no_more line) state other verified beside ahead = cc
  replays overlong state other verified beside ahead = cc
  replays (no_step line) state other verified beside ahead = cc
  replays (next_step (Add id [] hints groups) line steps) state other verified beside ahead =
      let both = judged_good (fault state id [] hints groups) line _ verified in
      addition_ends state other id hints groups beside both.0 ahead
  replays (next_step (Add id (literal ∷ literals) hints groups) line steps) state other verified beside ahead =
      let both = judged_good (fault state id (literal ∷ literals) hints groups) line _ verified in
      addition_on state other id literal literals hints groups
      (cut_steps (after_step state (Add id (literal ∷ literals) hints groups)) steps) beside both.0 ahead
      (λ next s a. replays steps (after_step state (Add id (literal ∷ literals) hints groups)) next both.1 s a)
  replays (next_step (Delete id ids) line steps) state other verified beside ahead =
      deletion_on state other id ids (cut_steps (after_step state (Delete id ids)) steps) beside ahead
      (λ next s a. replays steps (after_step state (Delete id ids)) next verified s a)
