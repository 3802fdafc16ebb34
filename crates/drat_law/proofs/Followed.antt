-- A list of clauses follows the live clauses of an LRAT proof from step to step; so what its steps become are good steps.
use Rattle.std.proofs.Common.{◌≡◌, ℕ, ◌+◌, Bool, true, false, ◌||◌, ℤ, List, [], ◌∷◌, ◌++◌, None, Some}
use Rattle.std.proofs.Common.{refl, sym, ap, ◌∙◌}
use Rattle.std.specs.List.{list_any}
use Rattle.std.specs.FinMap as finmap
use Rattle.std.proofs.lemmas.Bool.{or_left}
use Rattle.std.proofs.lemmas.List.Folds.{list_any-append}
use Rattle.cnf_base.specs.declared.list.Group.{Group}
use Rattle.cnf_base.specs.declared.step.Step.{Step}
use Rattle.cnf_base.specs.declared.step.Step.TheVariants.{Add, Delete}
use Rattle.cnf_base.specs.ProofText.{is_empty}
use Rattle.lrat_text.specs.Steps.{Steps, no_more, overlong, no_step, next_step, steps}
use Rattle.lrat_rules.specs.State.{State, Live, clause_at, start, with_clause, without_clauses}
use Rattle.lrat_rules.specs.Addition.{fault}
use Rattle.lrat_rules.specs.Run.{step_fault, after_step, step_adds_empty}
use Rattle.proof_judging.specs.declared.verdict.Verdict.TheVariants.{Verified}
use Rattle.proof_judging.specs.Verdict.{end_verdict, judged}
use Rattle.lrat_checker.specs.TextVerdict.{max_bytes, steps_verdict, text_verdict}
use Rattle.drat_text.specs.declared.step.DratStep.{DratStep}
use Rattle.drat_text.specs.declared.step.DratStep.TheVariants.{Add as adds, Delete as deletes}
use Rattle.drat_proof.specs.Drat.{deletion_of, deletions, drat_of_step, unless_fault, drat_of, drat_steps}
use Rattle.drat_rules.specs.declared.deletions.Deletions.{Deletions}
use Rattle.drat_rules.specs.declared.deletions.Deletions.TheVariants.{ByList, BySet}
use Rattle.drat_rules.specs.Clauses.{equality_of, is_among, same_set}
use Rattle.drat_rules.specs.Addition.{drat_fault}
use Rattle.drat_rules.specs.Run.{after, drat_step_fault, after_all, fault_or, first_fault, adds_empty, drat_verdict, drat_verdict_by}
use Rattle.drat_rules.specs.Run.{DratRefutes}
use Rattle.drat_rules.specs.FromLrat.{HaveSame, IsListOf}
use Rattle.drat_rules.specs.Hits.{DeletesStanding}

-- good steps behind good steps
first_fault-append : (place : ℕ) (clauses : List (List ℤ)) (front rest : List DratStep) → first_fault place clauses front ≡ None
    → ((p : ℕ) → first_fault p (after_all clauses front) rest ≡ None) → first_fault place clauses (front ++ rest) ≡ None
first_fault-append place clauses [] rest h more = more place
first_fault-append place clauses (step ∷ front) rest h more =
    elim (drat_step_fault clauses step)
    as (λ o. fault_or place o (first_fault (place + 1) (after clauses step) front) ≡ None
    → fault_or place o (first_fault (place + 1) (after clauses step) (front ++ rest)) ≡ None) [
      | None ↦ λ later. first_fault-append (place + 1) (after clauses step) front rest later more
      | Some reason ↦ λ stops. cc
    ] h

-- the deletions of numbers are good, and add no clause
deletions_good : (place : ℕ) (clauses : List (List ℤ)) (live : Live) (ids : List ℕ) → first_fault place clauses (deletions live ids) ≡ None
deletions_good place clauses live [] = refl
deletions_good place clauses live (id ∷ ids) =
    elim (clause_at live id) as (λ o. first_fault place clauses (deletion_of o ++ deletions (finmap.remove live id) ids) ≡ None) [
      | None ↦ deletions_good place clauses (finmap.remove live id) ids
      | Some clause ↦ deletions_good (place + 1) (after clauses (deletes clause)) (finmap.remove live id) ids
    ]

deletions_add_none : (live : Live) (ids : List ℕ) → list_any adds_empty (deletions live ids) ≡ false
deletions_add_none live [] = refl
deletions_add_none live (id ∷ ids) =
    elim (clause_at live id) as (λ o. list_any adds_empty (deletion_of o ++ deletions (finmap.remove live id) ids) ≡ false) [
      | None ↦ deletions_add_none (finmap.remove live id) ids
      | Some clause ↦ deletions_add_none (finmap.remove live id) ids
    ]

or_false : (b : Bool) → (b || false) ≡ b
or_false true = refl
or_false false = refl

same_empty : (state : State) (step : Step) → list_any adds_empty (drat_of_step state step) ≡ step_adds_empty step
same_empty state (Add id clause hints groups) = or_false (is_empty clause)
same_empty state (Delete id ids) = deletions_add_none state.live ids

or_assoc : (a b c : Bool) → ((a || b) || c) ≡ (a || (b || c))
or_assoc true b c = refl
or_assoc false b c = refl

-- what the verdict on LRAT's steps tells of the steps that they become, where earlier ones did or didn't add the empty clause
record AreGood (clauses : List (List ℤ)) (has_empty : Bool) (steps : List DratStep) : Type 0 where
  pub good : (place : ℕ) → first_fault place clauses steps ≡ None
  pub empty : (has_empty || list_any adds_empty steps) ≡ true

has_empty_at_end : (b : Bool) (line : ℕ) → Some (end_verdict b line) ≡ Some Verified → b ≡ true
has_empty_at_end true line h = refl
has_empty_at_end false line h = cc

-- the clauses of `from_lrat_law`
module _
    (good : (state : State) (clauses : List (List ℤ)) (id : ℕ) (clause : List ℤ) (hints : List ℕ) (groups : List Group)
    → HaveSame state.live clauses → fault state id clause hints groups ≡ None → drat_fault clauses clause ≡ None)
    (added : (state : State) (clauses : List (List ℤ)) (id : ℕ) (clause : List ℤ) (hints : List ℕ) (groups : List Group)
    → IsListOf state clauses → fault state id clause hints groups ≡ None
    → IsListOf record { live = with_clause state.live id clause; top = id } (after clauses (adds clause)))
    (deleted : (state : State) (clauses : List (List ℤ)) (id : ℕ) (clause : List ℤ) → IsListOf state clauses
    → clause_at state.live id ≡ Some clause
    → IsListOf record { live = finmap.remove state.live id; top = state.top } (after clauses (deletes clause)))
    (passed_over : (state : State) (clauses : List (List ℤ)) (id : ℕ) → IsListOf state clauses → clause_at state.live id ≡ None
    → IsListOf record { live = finmap.remove state.live id; top = state.top } clauses) where
  deletions_follow : (state : State) (clauses : List (List ℤ)) (ids : List ℕ) → IsListOf state clauses
      → IsListOf record { live = without_clauses state.live ids; top = state.top } (after_all clauses (deletions state.live ids))
  deletions_follow state clauses [] l = l
  deletions_follow state clauses (id ∷ ids) l =
      elim (clause_at state.live id)
      as (λ o. clause_at state.live id ≡ o
      → IsListOf record { live = without_clauses (finmap.remove state.live id) ids; top = state.top }
      (after_all clauses (deletion_of o ++ deletions (finmap.remove state.live id) ids))) [
        | None ↦ λ none. deletions_follow record { live = finmap.remove state.live id; top = state.top } clauses ids
            (passed_over state clauses id l none)
        | Some clause ↦ λ at. deletions_follow record { live = finmap.remove state.live id; top = state.top }
            (after clauses (deletes clause)) ids (deleted state clauses id clause l at)
      ] refl

  step_follows : (state : State) (clauses : List (List ℤ)) (step : Step) → IsListOf state clauses → step_fault state step ≡ None
      → IsListOf (after_step state step) (after_all clauses (drat_of_step state step))
  step_follows state clauses (Add id clause hints groups) l h = added state clauses id clause hints groups l h
  step_follows state clauses (Delete id ids) l h = deletions_follow state clauses ids l

  step_good : (place : ℕ) (state : State) (clauses : List (List ℤ)) (step : Step) → IsListOf state clauses → step_fault state step ≡ None
      → first_fault place clauses (drat_of_step state step) ≡ None
  step_good place state clauses (Add id clause hints groups) l h = rw (good state clauses id clause hints groups l.same h) refl
  step_good place state clauses (Delete id ids) l h = deletions_good place clauses state.live ids

  steps_good : (state : State) (clauses : List (List ℤ)) (has_empty : Bool) (steps : Steps) → IsListOf state clauses
      → steps_verdict state has_empty steps ≡ Some Verified → AreGood clauses has_empty (drat_of state steps)
  steps_good state clauses has_empty (no_more line) l h = record {
    good = λ place. refl;
    empty = or_left _ _ (has_empty_at_end has_empty line h);
  }
  steps_good state clauses has_empty overlong l h = cc
  steps_good state clauses has_empty (no_step line) l h = cc
  steps_good state clauses has_empty (next_step step line steps) l h =
      elim (step_fault state step)
      as (λ o. step_fault state step ≡ o
      → judged o line (steps_verdict (after_step state step) (has_empty || step_adds_empty step) steps) ≡ Some Verified
      → AreGood clauses has_empty (unless_fault o (drat_of_step state step ++ drat_of (after_step state step) steps))) [
        | None ↦ λ none later.
            let rest : AreGood (after_all clauses (drat_of_step state step)) (has_empty || step_adds_empty step)
            (drat_of (after_step state step) steps) =
            steps_good (after_step state step) (after_all clauses (drat_of_step state step)) (has_empty || step_adds_empty step) steps
            (step_follows state clauses step l none) later in
            record {
              good = λ place. first_fault-append place clauses (drat_of_step state step) (drat_of (after_step state step) steps)
                  (step_good place state clauses step l none) rest.good;
              empty =
                  ap (λ b. has_empty || b) (list_any-append adds_empty (drat_of_step state step) (drat_of (after_step state step) steps)
                  ∙ ap (λ b. b || list_any adds_empty (drat_of (after_step state step) steps)) (same_empty state step))
                  ∙ sym (or_assoc has_empty (step_adds_empty step) (list_any adds_empty (drat_of (after_step state step) steps)))
                  ∙ rest.empty;
            }
        | Some reason ↦ λ bad stops. cc
      ] refl h

  -- each deletion names a clause that stands
  module _ (listed : (live : Live) (clauses : List (List ℤ)) (id : ℕ) (clause : List ℤ) → HaveSame live clauses
      → clause_at live id ≡ Some clause → is_among clauses clause ≡ true) where
    deletions_stand : (state : State) (clauses : List (List ℤ)) (ids : List ℕ) (rest : List DratStep) → IsListOf state clauses
        → DeletesStanding (after_all clauses (deletions state.live ids)) rest
        → DeletesStanding clauses (deletions state.live ids ++ rest)
    deletions_stand state clauses [] rest l h = h
    deletions_stand state clauses (id ∷ ids) rest l h =
        elim (clause_at state.live id)
        as (λ o. clause_at state.live id ≡ o
        → DeletesStanding (after_all clauses (deletion_of o ++ deletions (finmap.remove state.live id) ids)) rest
        → DeletesStanding clauses ((deletion_of o ++ deletions (finmap.remove state.live id) ids) ++ rest)) [
          | None ↦ λ none behind. deletions_stand record { live = finmap.remove state.live id; top = state.top } clauses ids rest
              (passed_over state clauses id l none) behind
          | Some clause ↦ λ at behind. (
            listed state.live clauses id clause l.same at,
            deletions_stand record { live = finmap.remove state.live id; top = state.top } (after clauses (deletes clause)) ids rest
                (deleted state clauses id clause l at) behind,
          )
        ] refl h

    step_stands : (state : State) (clauses : List (List ℤ)) (step : Step) (rest : List DratStep) → IsListOf state clauses
        → DeletesStanding (after_all clauses (drat_of_step state step)) rest → DeletesStanding clauses (drat_of_step state step ++ rest)
    step_stands state clauses (Add id clause hints groups) rest l h = h
    step_stands state clauses (Delete id ids) rest l h = deletions_stand state clauses ids rest l h

    pub steps_stand : (state : State) (clauses : List (List ℤ)) (steps : Steps) → IsListOf state clauses
        → DeletesStanding clauses (drat_of state steps)
    steps_stand state clauses (no_more line) l = tt
    steps_stand state clauses overlong l = tt
    steps_stand state clauses (no_step line) l = tt
    steps_stand state clauses (next_step step line steps) l =
        elim (step_fault state step)
        as (λ o. step_fault state step ≡ o
        → DeletesStanding clauses (unless_fault o (drat_of_step state step ++ drat_of (after_step state step) steps))) [
          | None ↦ λ none. step_stands state clauses step (drat_of (after_step state step) steps) l
              (steps_stand (after_step state step) (after_all clauses (drat_of_step state step)) steps (step_follows state clauses step l
              none))
          | Some reason ↦ λ bad. tt
        ] refl

  pub DratRefutes-verified : ((clauses : List (List ℤ)) → IsListOf (start clauses) clauses) → (clauses : List (List ℤ)) (bytes : List ℕ)
      → text_verdict clauses bytes ≡ Some Verified → DratRefutes clauses (drat_steps clauses bytes)
  DratRefutes-verified starts clauses bytes h =
      let are : AreGood clauses false (drat_of (start clauses) (steps max_bytes bytes)) =
      steps_good (start clauses) clauses false (steps max_bytes bytes) (starts clauses) h in
      record { verified = rw (are.good 1, are.empty) refl }

-- the verdict on verified steps whose deletions name clauses that stand, by lists and by sets
pub verdict-by : ((clauses : List (List ℤ)) (steps : List DratStep) → DeletesStanding clauses steps
    → drat_verdict_by same_set clauses steps ≡ drat_verdict clauses steps)
    → (deletions : Deletions) (clauses : List (List ℤ)) (steps : List DratStep) → DeletesStanding clauses steps
    → DratRefutes clauses steps → drat_verdict_by (equality_of deletions) clauses steps ≡ None
verdict-by any_order ByList clauses steps stand refutes = refutes.verified
verdict-by any_order BySet clauses steps stand refutes = any_order clauses steps stand ∙ refutes.verified
