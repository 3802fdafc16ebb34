-- Conservative steps keep each assignment that satisfies the formula, on the formula's variables.
use Rattle.std.proofs.Common.{◌≡◌, ◌≤◌, ◌+◌, ◌||◌, ℕ, suc, true, false, not, ℤ, pos, negsuc, List, [], ◌∷◌, Option, None}
use Rattle.std.proofs.Common.{Some, refl}
use Rattle.std.proofs.Common.{ap, ap₂, ◌∙◌, arith, inl, inr, eqb-true, eq-eqb}
use Rattle.std.specs.Prelude.{◌==◌, nat_abs, nat_lt, nat_le, if◌then◌else◌}
use Rattle.std.specs.List.{list_all}
use Rattle.std.proofs.lemmas.Bool.{and_parts, or_cases, leb-true, ltb-true}
use Rattle.cnf_base.specs.declared.list.Group.{Group}
use Rattle.cnf_base.specs.declared.step.Step.{Step}
use Rattle.cnf_base.specs.declared.step.Step.TheVariants.{Add, Delete}
use Rattle.cnf_base.specs.ProofText.{is_printable}
use Rattle.cnf_base.specs.Truth.{Assignment, Satisfies, AreClausesOf, literal_holds, clause_holds, is_literal_of}
use Rattle.lrat_rules.specs.declared.outcome.Reason.{Reason}
use Rattle.lrat_rules.specs.State.{State, Live, clause_at, start, with_clause, SatisfiesLive}
use Rattle.lrat_rules.specs.Chain.{literals_of, chain, Outcome, Open, Closed, Bad}
use Rattle.lrat_rules.specs.Conservative.{IsAddedBy, added_clause, are_conservative, begins_above, is_closed, is_conservative}
use Rattle.lrat_rules.specs.Derivation.{IsDerivation, lines_from}
use Rattle.lrat_rules.specs.Run.{Judged, Reached, judge_step, run, step_fault, after_step}
use Rattle.lrat_rules.specs.Soundness.{make_true, step_has_no_zero, SatisfiesUpToPivot}
use Rattle.lrat_rules.proofs.SoundSteps.{IsModel, LiveHasNoZero-step, LivePass-without_clauses, SatisfiesLive-Closes}
use Rattle.lrat_rules.proofs.SoundSteps.{SatisfiesUpToPivot-fault}
use Rattle.lrat_rules.proofs.MoreLines.{run_on}
use Rattle.lrat_rules.proofs.Derivations.{step_no_zero}
use Rattle.lrat_rules.proofs.Refuted.{start_model}
use Rattle.lrat_rules.proofs.Starts.{clause_at-with_clause}

-- both give each of these variables the same value
pub record Agrees (vars : ℕ) (a b : Assignment) : Type 0 where
  pub same : (x : ℕ) → x ≤ vars → a x ≡ b x

agrees_further : (vars : ℕ) (a b c : Assignment) → Agrees vars a b → Agrees vars b c → Agrees vars a c
agrees_further vars a b c one two = record { same = λ x small. one.same x small ∙ two.same x small }

-- so they give its literals, and its clauses, the same truth
literal_same : (vars : ℕ) (a b : Assignment) → Agrees vars a b → (x : ℤ) → is_literal_of vars x ≡ true → literal_holds a x ≡ literal_holds b
    x
literal_same vars a b agrees (pos n) is = agrees.same n (leb-true n vars (and_parts (nat_lt 0 n) (nat_le n vars) is).1)
literal_same vars a b agrees (negsuc n) is =
    ap not (agrees.same (suc n) (leb-true (suc n) vars (and_parts (nat_lt 0 (suc n)) (nat_le (suc n) vars) is).1))

pub clause_same : (vars : ℕ) (a b : Assignment) → Agrees vars a b → (clause : List ℤ) → list_all (is_literal_of vars) clause ≡ true
    → clause_holds a clause ≡ clause_holds b clause
clause_same vars a b agrees [] all = refl
clause_same vars a b agrees (x ∷ clause) all =
    let parts = and_parts (is_literal_of vars x) (list_all (is_literal_of vars) clause) all in
    ap₂ ◌||◌ (literal_same vars a b agrees x parts.0) (clause_same vars a b agrees clause parts.1)

-- a literal of another variable may be made true
agrees_above : (vars : ℕ) (pivot : ℤ) (a : Assignment) → nat_lt vars (nat_abs pivot) ≡ true → Agrees vars a (make_true pivot a)
agrees_above vars (pos n) a above = record {
  same = λ x small. elim (x == n) as (λ b. (x == n) ≡ b → a x ≡ (if b then true else a x)) [
    | true ↦ λ is. absurd (let over = ltb-true vars n above in let one = eqb-true x n is in omega (arith, over, one, small))
    | false ↦ λ other. refl
  ] refl;
}
agrees_above vars (negsuc n) a above = record {
  same = λ x small. elim (x == suc n) as (λ b. (x == suc n) ≡ b → a x ≡ (if b then false else a x)) [
    | true ↦ λ is. absurd (let over = ltb-true vars (suc n) above in let one = eqb-true x (suc n) is in omega (arith, over, one, small))
    | false ↦ λ other. refl
  ] refl;
}

closed_is : (outcome : Outcome) → is_closed outcome ≡ true → outcome ≡ Closed
closed_is (Open n) is = cc
closed_is Closed is = refl
closed_is (Bad reason) is = cc

-- a model that agrees with another one
pub record Keeps (vars : ℕ) (a : Assignment) (live : Live) : Type 0 where
  pub model : Assignment
  pub is : IsModel model live
  pub agrees : Agrees vars a model

same_model : (vars : ℕ) (a : Assignment) (live : Live) → IsModel a live → Keeps vars a live
same_model vars a live is = record { model = a; is = is; agrees = record { same = λ x small. refl } }

-- of a clause whose first literal is of another variable
begun_above : (vars : ℕ) (a : Assignment) (live : Live) (clause : List ℤ) → begins_above vars clause ≡ true
    → SatisfiesUpToPivot a clause live → (b : Assignment) × SatisfiesLive b live × Agrees vars a b
begun_above vars a live [] above satisfied = cc
begun_above vars a live (pivot ∷ clause) above (inl satisfied) = (a, satisfied, record { same = λ x small. refl })
begun_above vars a live (pivot ∷ clause) above (inr satisfied) = (make_true pivot a, satisfied, agrees_above vars pivot a above)

-- one step
keeps_step : (vars : ℕ) (a : Assignment) (state : State) (step : Step) → IsModel a state.live → step_has_no_zero step ≡ true
    → step_fault state step ≡ None → is_conservative vars state step ≡ true → Keeps vars a (after_step state step).live
keeps_step vars a state (Add id clause hints groups) model z good conservative =
    let nonzero = LiveHasNoZero-step state (Add id clause hints groups) model.nonzero z in
    elim (or_cases (is_closed (chain state.live (literals_of clause) hints)) (begins_above vars clause) conservative) [
      | inl closed ↦ same_model vars a (with_clause state.live id clause) (record {
        nonzero = nonzero;
        satisfied = SatisfiesLive-Closes a state.live id clause hints model.nonzero model.satisfied
            (closed_is (chain state.live (literals_of clause) hints) closed);
      })
      | inr above ↦
          let kept = begun_above vars a (with_clause state.live id clause) clause above
          (SatisfiesUpToPivot-fault a state id clause hints groups model.nonzero model.satisfied good) in
          record { model = kept.0; is = record { nonzero = nonzero; satisfied = kept.1 }; agrees = kept.2 }
    ]
keeps_step vars a state (Delete id ids) model z good conservative = same_model vars a (after_step state (Delete id ids)).live (record {
  nonzero = LiveHasNoZero-step state (Delete id ids) model.nonzero z;
  satisfied = LivePass-without_clauses (clause_holds a) state.live ids model.satisfied;
})

-- the step that a run takes first is good
good_first : (state reached : State) (line : ℕ) (later : State → Judged) (step : Step) (fault : Option Reason)
    → judge_step state line later step fault ≡ Reached reached → fault ≡ None
good_first state reached line later step None is = refl
good_first state reached line later step (Some reason) is = cc

-- the clause that a step added holds behind it
added_holds : (b : Assignment) (state : State) (step : Step) (clause : List ℤ) → SatisfiesLive b (after_step state step).live
    → added_clause step ≡ Some clause → clause_holds b clause ≡ true
added_holds b state (Add id own hints groups) clause satisfied is =
    let same : own ≡ clause = cc in
    satisfied id clause (clause_at-with_clause state.live id id own ∙ here own clause same) where
      here : (own clause : List ℤ) → own ≡ clause → (if id == id then Some own else clause_at state.live id) ≡ Some clause
      here own clause same = rw (eq-eqb id id refl) (ap Some same)
added_holds b state (Delete id ids) clause satisfied is = cc

-- the steps in turn
holds_along : (vars line : ℕ) (a : Assignment) (state reached : State) (steps : List Step)
    → run state (lines_from line steps) ≡ Reached reached → list_all is_printable steps ≡ true → are_conservative vars state steps ≡ true
    → Keeps vars a state.live → (clause : List ℤ) → IsAddedBy steps clause → list_all (is_literal_of vars) clause ≡ true
    → clause_holds a clause ≡ true
holds_along vars line a state reached [] runs printable conservative keeps clause added over = absurd added
holds_along vars line a state reached (step ∷ steps) runs printable conservative keeps clause added over =
    let shown = and_parts (is_printable step) (list_all is_printable steps) printable in
    let each = and_parts (is_conservative vars state step) (are_conservative vars (after_step state step) steps) conservative in
    let good = good_first state reached line (λ next. run next (lines_from (line + 1) steps)) step (step_fault state step) runs in
    let next = keeps_step vars keeps.model state step keeps.is (step_no_zero step shown.0) good each.0 in
    let still : Keeps vars a (after_step state step).live = record {
      model = next.model;
      is = next.is;
      agrees = agrees_further vars a keeps.model next.model keeps.agrees next.agrees;
    } in
    elim added [
      | inl here ↦ clause_same vars a next.model still.agrees clause over ∙ added_holds next.model state step clause next.is.satisfied here
      | inr later ↦ holds_along vars (line + 1) a (after_step state step) reached steps
          (run_on state reached line step (lines_from (line + 1) steps) runs) shown.1 each.1 still clause later over
    ]

pub added_clause_holds : (vars : ℕ) (clauses : List (List ℤ)) (steps : List Step) (state : State) → AreClausesOf vars clauses
    → IsDerivation clauses steps state → are_conservative vars (start clauses) steps ≡ true → (clause : List ℤ) → IsAddedBy steps clause
    → list_all (is_literal_of vars) clause ≡ true → (a : Assignment) → Satisfies a clauses → clause_holds a clause ≡ true
added_clause_holds vars clauses steps state ranges derived conservative clause added over a satisfies =
    holds_along vars 1 a (start clauses) state steps derived.reached derived.printable conservative
    (same_model vars a (start clauses).live (start_model vars clauses ranges a satisfies)) clause added over

-- a strict refutation is conservative, since its hints close
pub closes_conservative : (vars id : ℕ) (state : State) (clause : List ℤ) (hints : List ℕ) (groups : List Group)
    → chain state.live (literals_of clause) hints ≡ Closed → is_conservative vars state (Add id clause hints groups) ≡ true
closes_conservative vars id state clause hints groups closes = rw closes refl
