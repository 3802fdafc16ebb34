-- The core alone: the trimmed form refutes it line by line, so no assignment satisfies its clauses.
use Rattle.std.proofs.Common.{◌≡◌, ℕ, zero, suc, ◌+◌, ◌-◌, ◌<◌, ◌≤◌, Bool, true, false, not, ◌||◌, ◌&&◌, ℤ, List, [], ◌∷◌, length}
use Rattle.std.proofs.Common.{Option, Some, None, refl, sym, ap, ◌∙◌, ◌⊎◌, inl, inr, arith, nat_le, subst}
use Rattle.std.specs.Prelude.{if◌then◌else◌, slice_index_or}
use Rattle.std.specs.FinMap as finmap
use Rattle.std.specs.List.{list_any, range_with_len}
use Rattle.std.proofs.lemmas.Bool.{and_parts, both_ways, cases_Bool, cases_lt, eq-eqb, leb-false, lt-leb, or_cases, or_left, or_parts}
use Rattle.std.proofs.lemmas.Bool.{or_right}
use Rattle.cnf_base.specs.declared.list.Group.{Group}
use Rattle.cnf_base.specs.declared.step.Step.{Step}
use Rattle.cnf_base.specs.declared.step.Step.TheVariants.{Add, Delete}
use Rattle.cnf_base.specs.Truth.{Assignment, Satisfies, clause_holds}
use Rattle.lrat_rules.specs.declared.outcome.Reason.{Reason}
use Rattle.lrat_rules.specs.declared.outcome.Reason.TheVariants.{IdNotGreater}
use Rattle.lrat_rules.specs.State.{State, Live, SatisfiesLive, clause_at, start, with_clause, without_clauses}
use Rattle.lrat_rules.specs.Chain.{literals_of, chain}
use Rattle.lrat_rules.specs.Addition.{fault, fault_after_hints}
use Rattle.lrat_rules.specs.Derivation.{lines_from}
use Rattle.lrat_rules.specs.Run.{Judged, Reached, run, judge_step, step_fault, after_step, step_adds_empty}
use Rattle.lrat_rules.specs.Soundness.{LiveHasNoZero, SatisfiesUpToPivot, make_true, lines_have_no_zero, step_has_no_zero}
use Rattle.lrat_checker.specs.Cuts.{Cut, cut_of}
use Rattle.proof_trim.specs.Trimmed.{cut_step, names}
use Rattle.proof_trim.specs.Core.{are_naming, clauses_at, core_of, core_start, others}
use Rattle.proof_trim.proofs.Chains.{has_id}
use Rattle.proof_trim.proofs.Additions.{cut_names, good-cut}
use Rattle.proof_trim.proofs.Shadow.{IsShadow, shadow_less, shadow-remove, shadow-with, with_at, without_all}
use Rattle.proof_trim.proofs.Replay.{AreGood, good_parts}
use Rattle.proof_trim.proofs.Listed.{each_listed, in_range, passing}

-- a deletion from both maps
shadow-deletes : {there : ℕ → Bool} (live other : Live) (ids : List ℕ) → IsShadow there live other
    → IsShadow there (without_clauses live ids) (without_clauses other ids)
shadow-deletes live other [] shadow = shadow
shadow-deletes live other (id ∷ ids) shadow =
    shadow-deletes (finmap.remove live id) (finmap.remove other id) ids (shadow-remove shadow id)

-- of a step that is cut no more
abbrev hints_of : Step → List ℕ
hints_of (Add id clause hints groups) = hints
hints_of (Delete id ids) = []

abbrev groups_of : Step → List Group
groups_of (Add id clause hints groups) = groups
groups_of (Delete id ids) = []

uncut : (state : State) (id : ℕ) (clause : List ℤ) (hints : List ℕ) (groups : List Group)
    → cut_step state (Add id clause hints groups) ≡ Add id clause hints groups
    → cut_of state.live clause hints groups ≡ record { pos = hints; groups = groups }
uncut state id clause hints groups same = λ i. record { pos = ap hints_of same i; groups = ap groups_of same i }

-- Good steps from a state are good from one with the clauses that they name, and no others but those of the first.
module _ (count : ℕ) (there : ℕ → Bool) (above : (id : ℕ) → count < id → there id ≡ true) where
  pub record Alone (state other : State) : Type 0 where
    pub shadow : IsShadow there state.live other.live
    pub top : other.top ≡ state.top
    pub formula : count ≤ state.top

  good_alone : (state other : State) → Alone state other → (id : ℕ) (clause : List ℤ) (hints : List ℕ) (groups : List Group)
      → fault state id clause hints groups ≡ None → cut_step state (Add id clause hints groups) ≡ Add id clause hints groups
      → ((x : ℕ) → names (Add id clause hints groups) x ≡ true → there x ≡ true) → fault other id clause hints groups ≡ None
  good_alone state other alone id clause hints groups good same named =
      let parts = good_parts state id clause hints groups good in
      let cut : Cut = cut_of state.live clause hints groups in
      let is : cut ≡ record { pos = hints; groups = groups } = uncut state id clause hints groups same in
      let agrees : (x : ℕ) → cut_names cut x ≡ true → clause_at other.live x ≡ clause_at state.live x =
      λ x h. alone.shadow.same x (named x (sym (ap (λ (c : Cut). cut_names c x) is) ∙ h)) in
      let higher : nat_le id other.top ≡ false = lt-leb id other.top (omega (arith, parts.0, alone.top)) in
      subst (λ (c : Cut). fault other id clause c.pos c.groups ≡ None) is
      (ap (λ (b : Bool). if b then Some IdNotGreater
      else fault_after_hints other.live clause cut.groups (chain other.live (literals_of clause) cut.pos)) higher
      ∙ good-cut state.live other.live (shadow_less alone.shadow) clause hints groups parts.1 agrees)

  pub alone_runs : (steps : List Step) (state other : State) → AreGood state steps
      → ((x : ℕ) → are_naming steps x ≡ true → there x ≡ true) → Alone state other
      → (end : State) × ((line : ℕ) → run other (lines_from line steps) ≡ Reached end)
  alone_runs [] state other good named alone = (other, λ line. refl)
  alone_runs (Add id clause hints groups ∷ steps) state other good named alone =
      let step : Step = Add id clause hints groups in
      let parts = good_parts state id clause hints groups good.0 in
      let fine : fault other id clause hints groups ≡ None = good_alone state other alone id clause hints groups good.0 good.1
      (λ x h. named x (or_left (names step x) (are_naming steps x) h)) in
      let rest = alone_runs steps (after_step state step) (after_step other step) good.2
      (λ x h. named x (or_right (names step x) (are_naming steps x) h)) (record {
        shadow = shadow-with alone.shadow id clause (above id (omega (arith, alone.formula, parts.0)));
        top = refl;
        formula = omega (arith, alone.formula, parts.0);
      }) in
      (rest.0, λ line. ap (judge_step other line (λ s. run s (lines_from (line + 1) steps)) step) fine ∙ rest.1 (line + 1))
  alone_runs (Delete id ids ∷ steps) state other good named alone =
      let step : Step = Delete id ids in
      let rest = alone_runs steps (after_step state step) (after_step other step) good.2 named (record {
        shadow = shadow-deletes state.live other.live ids alone.shadow;
        top = alone.top;
        formula = alone.formula;
      }) in
      (rest.0, λ line. rest.1 (line + 1))

-- Which clauses the core has at the start.
bools : (named row : Bool) → (not (named && row) && row) ≡ (not named && row)
bools true true = refl
bools true false = refl
bools false true = refl
bools false false = refl

abbrev in_row : ℕ → ℕ → Bool
in_row count id = has_id (range_with_len 1 count) id

left_out : (count : ℕ) (steps : List Step) (id : ℕ) → has_id (others count (core_of count steps)) id
    ≡ (not (are_naming steps id) && in_row count id)
left_out count steps id =
    passing (λ x. not (has_id (core_of count steps) x)) (range_with_len 1 count) id
    ∙ ap (λ (b : Bool). not b && in_row count id) (passing (are_naming steps) (range_with_len 1 count) id)
    ∙ bools (are_naming steps id) (in_row count id)

none_either : (b : Bool) (p : Option (List ℤ)) → p ≡ None → (if b then None else p) ≡ None
none_either true p e = refl
none_either false p e = e

some_of : (b : Bool) (p : Option (List ℤ)) (clause : List ℤ) → (if b then None else p) ≡ Some clause → (b ≡ false) × (p ≡ Some clause)
some_of true p clause e = cc
some_of false p clause e = (refl, e)

module _ (clauses : List (List ℤ)) (steps : List Step)
    (none_at_zero : clause_at (start clauses).live 0 ≡ None)
    (none_above : (id : ℕ) → length clauses < id → clause_at (start clauses).live id ≡ None) where
  abbrev count : ℕ
  count = length clauses

  abbrev numbers : List ℕ
  numbers = core_of count steps

  outside : (id : ℕ) → in_row count id ≡ false → clause_at (start clauses).live id ≡ None
  outside zero out = none_at_zero
  outside (suc n) out =
      elim (cases_lt count (suc n)) [
        | inl beyond ↦ none_above (suc n) beyond
        | inr within ↦ absurd (both_ways (in_row count (suc n)) out (in_range 1 count (suc n) (omega arith) (omega (arith, within))))
      ]

  at_start : (id : ℕ) → clause_at (core_start clauses numbers).live id
      ≡ (if not (are_naming steps id) && in_row count id then None else clause_at (start clauses).live id)
  at_start id = without_all (start clauses).live (others count numbers) id
      ∙ ap (λ (b : Bool). if b then None else clause_at (start clauses).live id) (left_out count steps id)

  -- what the steps name, and what they add
  abbrev pub there : ℕ → Bool
  there id = not (nat_le id count) || are_naming steps id

  pub there-above : (id : ℕ) → count < id → there id ≡ true
  there-above id above = ap (λ (b : Bool). not b || are_naming steps id) (lt-leb id count above)

  pub there-named : (id : ℕ) → are_naming steps id ≡ true → there id ≡ true
  there-named id named = or_right (not (nat_le id count)) (are_naming steps id) named

  same_there : (id : ℕ) → there id ≡ true → clause_at (core_start clauses numbers).live id ≡ clause_at (start clauses).live id
  same_there id is =
      elim (or_cases (not (nat_le id count)) (are_naming steps id) is) [
        | inl beyond ↦
            let none : clause_at (start clauses).live id ≡ None = none_above id (leb-false id count (not_true (nat_le id count) beyond)) in
            at_start id ∙ none_either (not (are_naming steps id) && in_row count id) (clause_at (start clauses).live id) none ∙ sym none
        | inr named ↦ at_start id ∙ (λ i. if not (named i) && in_row count id then None else clause_at (start clauses).live id)
      ] where
        not_true : (b : Bool) → not b ≡ true → b ≡ false
        not_true true e = cc
        not_true false e = refl

  none_elsewhere : (id : ℕ) → there id ≡ false → clause_at (core_start clauses numbers).live id ≡ None
  none_elsewhere id missing =
      let both = or_parts (not (nat_le id count)) (are_naming steps id) missing in
      at_start id ∙ (λ i. if not (both.1 i) && in_row count id then None else clause_at (start clauses).live id)
      ∙ by (in_row count id) refl where
        by : (b : Bool) → in_row count id ≡ b → (if b then None else clause_at (start clauses).live id) ≡ None
        by true is = refl
        by false is = outside id is

  pub begins_alone : Alone count there there-above (start clauses) (core_start clauses numbers)
  begins_alone = record {
    shadow = record { same = same_there; none = none_elsewhere };
    top = refl;
    formula = omega arith;
  }

  no_clause : {clause : List ℤ} {p : Option (List ℤ)} → p ≡ Some clause → p ≡ None → ⊥
  no_clause is none = none_is_no_clause (sym is ∙ none) where
    none_is_no_clause : {clause : List ℤ} → Some clause ≡ None → ⊥
    none_is_no_clause e = cc

  same_clause : {clause other : List ℤ} → ◌≡◌ {A = Option (List ℤ)} (Some clause) (Some other) → clause ≡ other
  same_clause e = cc

  -- a clause of it is the formula's, of a number that the core has
  pub of_core : (id : ℕ) (clause : List ℤ) → clause_at (core_start clauses numbers).live id ≡ Some clause
      → (has_id numbers id ≡ true) × (clause_at (start clauses).live id ≡ Some clause)
  of_core id clause stands =
      let both = some_of (not (are_naming steps id) && in_row count id) (clause_at (start clauses).live id) clause
      (sym (at_start id) ∙ stands) in
      let row : in_row count id ≡ true = within (cases_Bool (in_row count id)) both.1 in
      (passing (are_naming steps) (range_with_len 1 count) id ∙ (λ i. named (are_naming steps id) (in_row count id) both.0 row i), both.1)
    where
      within : (in_row count id ≡ true) ⊎ (in_row count id ≡ false) → clause_at (start clauses).live id ≡ Some clause
          → in_row count id ≡ true
      within (inl is) e = is
      within (inr out) e = absurd (no_clause e (outside id out))

      named : (a row : Bool) → (not a && row) ≡ false → row ≡ true → (a && row) ≡ true
      named true row e is = is
      named false row e is = absurd (both_ways row e is)

  -- where the core's clauses hold, so do all of them
  pub holds_alone : ((i : ℕ) → i < length clauses → clause_at (start clauses).live (i + 1) ≡ Some (slice_index_or clauses i []))
      → (a : Assignment) → Satisfies a (clauses_at clauses numbers) → SatisfiesLive a (core_start clauses numbers).live
  holds_alone at a satisfied id clause stands = go id (of_core id clause stands) where
    go : (id : ℕ) → (has_id numbers id ≡ true) × (clause_at (start clauses).live id ≡ Some clause) → clause_holds a clause ≡ true
    go zero both = absurd (no_clause both.1 none_at_zero)
    go (suc n) both =
        elim (cases_lt n (length clauses)) [
          | inl within ↦
              let next : n + 1 ≡ suc n = omega arith in
              let back : suc n - 1 ≡ n = omega arith in
              let is : clause ≡ slice_index_or clauses n [] = same_clause (sym both.1
              ∙ sym (ap (clause_at (start clauses).live) next) ∙ at n within) in
              ap (clause_holds a) (is ∙ sym (ap (λ (k : ℕ). slice_index_or clauses k []) back))
              ∙ each_listed (λ id. slice_index_or clauses (id - 1) []) (clause_holds a) numbers (suc n) satisfied both.0
          | inr beyond ↦ absurd (no_clause both.1 (none_above (suc n) (omega (arith, beyond))))
        ]

-- Soundness from a state on: where steps are good from it and one adds the empty clause, nothing satisfies its clauses.
module _ (addition : (a : Assignment) (state : State) (id : ℕ) (clause : List ℤ) (hints : List ℕ) (groups : List Group)
    → LiveHasNoZero state.live → SatisfiesLive a state.live → fault state id clause hints groups ≡ None
    → SatisfiesUpToPivot a clause (with_clause state.live id clause))
    (deletion : (a : Assignment) (live : Live) (ids : List ℕ) → SatisfiesLive a live → SatisfiesLive a (without_clauses live ids))
    (nonzero : (state : State) (step : Step) → LiveHasNoZero state.live → step_has_no_zero step ≡ true
    → LiveHasNoZero (after_step state step).live) where
  judged_on : (state : State) (line : ℕ) (later : State → Judged) (step : Step) (fault : Option Reason) (end : State)
      → judge_step state line later step fault ≡ Reached end → (fault ≡ None) × (later (after_step state step) ≡ Reached end)
  judged_on state line later step None end h = (refl, h)
  judged_on state line later step (Some reason) end h = cc

  unsatisfied : (live : Live) (id : ℕ) (a : Assignment) → SatisfiesLive a (with_clause live id []) → ⊥
  unsatisfied live id a satisfied = both_ways false refl
      (satisfied id [] (with_at live id [] id ∙ ap (λ (b : Bool). if b then Some [] else clause_at live id) (eq-eqb id id refl)))

  pub refuted_from : (steps : List Step) (state end : State) (line : ℕ) (a : Assignment) → run state (lines_from line steps) ≡ Reached end
      → list_any step_adds_empty steps ≡ true → LiveHasNoZero state.live → lines_have_no_zero (lines_from line steps) ≡ true
      → SatisfiesLive a state.live → ⊥
  refuted_from [] state end line a reached empty clean zeros satisfied = cc
  refuted_from (Delete id ids ∷ steps) state end line a reached empty clean zeros satisfied =
      refuted_from steps (after_step state (Delete id ids)) end (line + 1) a reached empty
      (nonzero state (Delete id ids) clean refl) zeros (deletion a state.live ids satisfied)
  refuted_from (Add id [] hints groups ∷ steps) state end line a reached empty clean zeros satisfied =
      let step : Step = Add id [] hints groups in
      let good = judged_on state line (λ s. run s (lines_from (line + 1) steps)) step (step_fault state step) end reached in
      unsatisfied state.live id a (addition a state id [] hints groups clean satisfied good.0)
  refuted_from (Add id (pivot ∷ clause) hints groups ∷ steps) state end line a reached empty clean zeros satisfied =
      let step : Step = Add id (pivot ∷ clause) hints groups in
      let good = judged_on state line (λ s. run s (lines_from (line + 1) steps)) step (step_fault state step) end reached in
      let parts = and_parts (step_has_no_zero step) (lines_have_no_zero (lines_from (line + 1) steps)) zeros in
      let later : (b : Assignment) → SatisfiesLive b (with_clause state.live id (pivot ∷ clause)) → ⊥ =
      λ b holds. refuted_from steps (after_step state step) end (line + 1) b good.1 empty (nonzero state step clean parts.0) parts.1
      holds in
      elim (addition a state id (pivot ∷ clause) hints groups clean satisfied good.0) [
        | inl same ↦ later a same
        | inr turned ↦ later (make_true pivot a) turned
      ]
