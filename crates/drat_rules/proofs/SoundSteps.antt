-- Good steps are sound, and steps that add the empty clause besides refute the clauses at the start.
use Rattle.std.proofs.Common.{◌≡◌, ℕ, ◌+◌, Bool, true, false, cond, ◌&&◌, ℤ, List, [], ◌∷◌, ◌++◌, length, Option, None, Some}
use Rattle.std.proofs.Common.{refl, sym, ◌∙◌, inl, inr}
use Rattle.std.specs.List.{list_any, list_all}
use Rattle.std.proofs.lemmas.Bool.{and_parts, and_from, or_from, both_ways}
use Rattle.std.proofs.lemmas.List.Folds.{list_all-append}
use Rattle.cnf_base.specs.Truth.{Assignment, clause_holds, is_literal_of, Satisfies}
use Rattle.drat_text.specs.declared.step.DratStep.{DratStep}
use Rattle.drat_text.specs.declared.step.DratStep.TheVariants.{Add as adds, Delete as deletes}
use Rattle.lrat_rules.specs.declared.outcome.Reason.{Reason}
use Rattle.lrat_rules.specs.Soundness.{make_true, is_nonzero, has_no_zero}
use Rattle.drat_rules.specs.Clauses.{Equality, without_first_by}
use Rattle.drat_rules.specs.Run.{after_by, drat_step_fault, after_all_by, fault_or, first_fault_by, adds_empty, drat_verdict_at}
use Rattle.drat_rules.specs.Run.{DratRefutesBy}
use Rattle.drat_rules.specs.Soundness.{SatisfiesAllUpToPivot, have_no_zero, drat_step_has_no_zero}
use Rattle.drat_rules.proofs.Resolvents.{SatisfiesAllUpToPivot-drat_fault}

-- what each clause passes, each passes once one is taken out
pub all-without_first : (same : Equality) (test : List ℤ → Bool) (clause : List ℤ) (clauses : List (List ℤ))
    → list_all test clauses ≡ true → list_all test (without_first_by same clause clauses) ≡ true
all-without_first same test clause [] h = h
all-without_first same test clause (other ∷ clauses) h =
    elim (same clause other) as (λ b. list_all test (cond b clauses (other ∷ without_first_by same clause clauses)) ≡ true) [
      | true ↦ (and_parts (test other) _ h).1
      | false ↦ and_from _ _ (and_parts (test other) _ h).0 (all-without_first same test clause clauses (and_parts (test other) _ h).1)
    ]

-- an assignment under which the clauses hold, none of which has a 0
pub record IsModel (a : Assignment) (clauses : List (List ℤ)) : Type 0 where
  pub satisfied : Satisfies a clauses
  pub nonzero : have_no_zero clauses ≡ true

some_model : (a : Assignment) (clause : List ℤ) (clauses : List (List ℤ)) → SatisfiesAllUpToPivot a clause clauses
    → (b : Assignment) × Satisfies b clauses
some_model a [] clauses s = (a, s)
some_model a (pivot ∷ clause) clauses (inl s) = (a, s)
some_model a (pivot ∷ clause) clauses (inr s) = (make_true pivot a, s)

pub have_no_zero-after : (same : Equality) (clauses : List (List ℤ)) (step : DratStep) → have_no_zero clauses ≡ true
    → drat_step_has_no_zero step ≡ true
    → have_no_zero (after_by same clauses step) ≡ true
have_no_zero-after same clauses (adds clause) z own = list_all-append has_no_zero clauses (clause ∷ []) ∙ and_from _ _ z (and_from _ _ own
    refl)
have_no_zero-after same clauses (deletes clause) z own = all-without_first same has_no_zero clause clauses z

step-sound : (same : Equality) (a : Assignment) (clauses : List (List ℤ)) (step : DratStep) → IsModel a clauses
    → drat_step_has_no_zero step ≡ true
    → drat_step_fault clauses step ≡ None → (b : Assignment) × IsModel b (after_by same clauses step)
step-sound same a clauses (adds clause) m own good =
    let next : (b : Assignment) × Satisfies b (clauses ++ clause ∷ []) =
    some_model a clause (clauses ++ clause ∷ []) (SatisfiesAllUpToPivot-drat_fault a clauses clause m.satisfied m.nonzero own good) in
    (next.0, record { satisfied = next.1; nonzero = have_no_zero-after same clauses (adds clause) m.nonzero own })
step-sound same a clauses (deletes clause) m own good = (
  a,
  record {
    satisfied = all-without_first same (clause_holds a) clause clauses m.satisfied;
    nonzero = have_no_zero-after same clauses (deletes clause) m.nonzero own;
  },
)

-- after the addition of the empty clause nothing satisfies the clauses
adds_no_empty : (same : Equality) (b : Assignment) (clauses : List (List ℤ)) (step : DratStep) → IsModel b (after_by same clauses step)
    → adds_empty step ≡ false
adds_no_empty same b clauses (adds []) m =
    let last : (list_all (clause_holds b) clauses && false) ≡ true =
    sym (list_all-append (clause_holds b) clauses ([] ∷ [])) ∙ m.satisfied in
    absurd (both_ways false refl (and_parts (list_all (clause_holds b) clauses) false last).1)
adds_no_empty same b clauses (adds (x ∷ xs)) m = refl
adds_no_empty same b clauses (deletes clause) m = refl

pub fault_or-none : (place : ℕ) (o : Option Reason) (later : Option (ℕ × Reason)) → fault_or place o later ≡ None
    → (o ≡ None) × (later ≡ None)
fault_or-none place None later h = (refl, h)
fault_or-none place (Some reason) later h = cc

-- where good steps lead from clauses that hold
pub record Survives (same : Equality) (clauses : List (List ℤ)) (steps : List DratStep) : Type 0 where
  pub assignment : Assignment
  pub model : IsModel assignment (after_all_by same clauses steps)
  pub no_empty : list_any adds_empty steps ≡ false

pub steps-sound : (same : Equality) (a : Assignment) (place : ℕ) (clauses : List (List ℤ)) (steps : List DratStep) → IsModel a clauses
    → list_all drat_step_has_no_zero steps ≡ true
    → first_fault_by same place clauses steps ≡ None → Survives same clauses steps
steps-sound same a place clauses [] m own good = record { assignment = a; model = m; no_empty = refl }
steps-sound same a place clauses (step ∷ steps) m own good =
    let parts : (drat_step_fault clauses step ≡ None) × (first_fault_by same (place + 1) (after_by same clauses step) steps ≡ None) =
    fault_or-none place (drat_step_fault clauses step) _ good in
    let zeros : (drat_step_has_no_zero step ≡ true) × (list_all drat_step_has_no_zero steps ≡ true) =
    and_parts (drat_step_has_no_zero step) _ own in
    let next : (b : Assignment) × IsModel b (after_by same clauses step) = step-sound same a clauses step m zeros.0 parts.0 in
    let rest : Survives same (after_by same clauses step) steps = steps-sound same next.0 (place + 1) (after_by same clauses step) steps
    next.1 zeros.1 parts.1 in
    record {
      assignment = rest.assignment;
      model = rest.model;
      no_empty = or_from _ _ (adds_no_empty same next.0 clauses step next.1) rest.no_empty;
    }

-- what verified steps are
pub record AreVerified (same : Equality) (clauses : List (List ℤ)) (steps : List DratStep) : Type 0 where
  pub good : first_fault_by same 1 clauses steps ≡ None
  pub empty : list_any adds_empty steps ≡ true

no_refusal : (end : ℕ) (b : Bool) (o : Option (ℕ × Reason)) → drat_verdict_at end b o ≡ None → (o ≡ None) × (b ≡ true)
no_refusal end b (Some refusal) h = cc
no_refusal end true None h = (refl, refl)
no_refusal end false None h = cc

pub AreVerified-DratRefutes : (same : Equality) (clauses : List (List ℤ)) (steps : List DratStep) → DratRefutesBy same clauses steps
    → AreVerified same clauses steps
AreVerified-DratRefutes same clauses steps r =
    let both : (first_fault_by same 1 clauses steps ≡ None) × (list_any adds_empty steps ≡ true) =
    no_refusal (length steps + 1) (list_any adds_empty steps) (first_fault_by same 1 clauses steps) r.verified in
    record { good = both.0; empty = both.1 }

-- the premise of formulas
no_zero-literals : (vars : ℕ) (clause : List ℤ) → list_all (is_literal_of vars) clause ≡ true → has_no_zero clause ≡ true
no_zero-literals vars [] h = refl
no_zero-literals vars (x ∷ xs) h =
    let both : (is_literal_of vars x ≡ true) × (list_all (is_literal_of vars) xs ≡ true) = and_parts (is_literal_of vars x) _ h in
    and_from _ _ (and_parts (is_nonzero x) _ both.0).0 (no_zero-literals vars xs both.1)

pub have_no_zero-formula : (vars : ℕ) (clauses : List (List ℤ)) → list_all (list_all (is_literal_of vars)) clauses ≡ true
    → have_no_zero clauses ≡ true
have_no_zero-formula vars [] h = refl
have_no_zero-formula vars (clause ∷ clauses) h =
    let both : (list_all (is_literal_of vars) clause ≡ true) × (list_all (list_all (is_literal_of vars)) clauses ≡ true) =
    and_parts (list_all (is_literal_of vars) clause) _ h in
    and_from _ _ (no_zero-literals vars clause both.0) (have_no_zero-formula vars clauses both.1)

pub unsatisfiable : (same : Equality) (clauses : List (List ℤ)) (steps : List DratStep) → have_no_zero clauses ≡ true
    → list_all drat_step_has_no_zero steps ≡ true
    → DratRefutesBy same clauses steps → (a : Assignment) → Satisfies a clauses → ⊥
unsatisfiable same clauses steps z own r a s =
    let verified = AreVerified-DratRefutes same clauses steps r in
    let survives = steps-sound same a 1 clauses steps record { satisfied = s; nonzero = z } own verified.good in
    both_ways (list_any adds_empty steps) survives.no_empty verified.empty
