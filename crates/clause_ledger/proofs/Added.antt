-- A good addition under the next number keeps a proof one.
use Rattle.std.proofs.Common.{◌≡◌, ℕ, ◌+◌, ◌≤◌, true, ◌&&◌, ℤ, List, [], ◌∷◌, ◌++◌, length, Option, Some, None, inl}
use Rattle.std.proofs.Common.{inr, refl, sym, ◌∙◌, ap, arith, eq-eqb}
use Rattle.std.proofs.lemmas.Bool.{and_parts, and_from, or_left, or_right, lt-ltb, le-leb, ne_eqb, cases_eq}
use Rattle.std.specs.Prelude.{IsTrue, is_some, nat_lt, nat_le, if◌then◌else◌, ◌==◌}
use Rattle.std.specs.List.{list_any, list_all}
use Rattle.cnf_base.specs.declared.list.Group.{Group}
use Rattle.cnf_base.specs.declared.step.Step.{Step}
use Rattle.cnf_base.specs.declared.step.Step.TheVariants.{Add}
use Rattle.cnf_base.specs.Truth.{is_literal_of}
use Rattle.cnf_base.specs.ProofText.{max_id, max_literal, is_id, is_group, is_printable}
use Rattle.lrat_rules.specs.State.{State, Live, clause_at, start, with_clause}
use Rattle.lrat_rules.specs.Addition.{holds_negated, if_live, is_candidate, fault}
use Rattle.lrat_rules.specs.Strict.{IsDefinition}
use Rattle.lrat_rules.specs.Run.{step_fault, after_step}
use Rattle.lrat_rules.specs.Derivation.{IsDerivation, deletes_added}
use Rattle.lrat_write.specs.LineText.{bare_groups}
use Rattle.clause_ledger.specs.Book.{IsProofOf, AreNumbers, after_steps, with_next}
use Rattle.clause_ledger.specs.Told.{after_steps-append}

-- live numbers are in range
ids_in_range : (live : Live) (top : ℕ) → AreNumbers live top → top ≤ max_id
    → (ids : List ℕ) → list_all (λ id. is_some (clause_at live id)) ids ≡ true → list_all is_id ids ≡ true
ids_in_range live top numbers small [] h = refl
ids_in_range live top numbers small (id ∷ ids) h =
    let parts = and_parts (is_some (clause_at live id)) (list_all (λ x. is_some (clause_at live x)) ids) h in
    let here : is_id id ≡ true =
    elim (clause_at live id) as (λ o. clause_at live id ≡ o → is_some o ≡ true → is_id id ≡ true) [
      | None ↦ λ is none. cc
      | Some clause ↦ λ is _. let range = numbers id clause is in
          and_from (nat_lt 0 id) (nat_le id max_id) (lt-ltb 0 id range.0) (le-leb id max_id (omega (arith, range.1)))
    ] refl parts.0 in
    and_from (is_id id) (list_all is_id ids) here (ids_in_range live top numbers small ids parts.1)

-- the candidates of a definition are live
is_some-candidate : (pivot : ℤ) (o : Option (List ℤ)) → if_live (holds_negated pivot) o ≡ true → is_some o ≡ true
is_some-candidate pivot None h = cc
is_some-candidate pivot (Some clause) h = refl

all_candidates_live : (live : Live) (pivot : ℤ) (candidates : List ℕ)
    → ((id : ℕ) → list_any (λ candidate. candidate == id) candidates ≡ true → is_candidate live pivot id ≡ true)
    → list_all (λ id. is_some (clause_at live id)) candidates ≡ true
all_candidates_live live pivot [] each = refl
all_candidates_live live pivot (candidate ∷ candidates) each =
    and_from (is_some (clause_at live candidate)) (list_all (λ id. is_some (clause_at live id)) candidates)
    (is_some-candidate pivot (clause_at live candidate) (each candidate (or_left _ _ (eq-eqb candidate candidate refl))))
    (all_candidates_live live pivot candidates (λ id h. each id (or_right _ _ h)))

pub candidates_in_range : (live : Live) (top : ℕ) → AreNumbers live top → top ≤ max_id
    → (clause : List ℤ) (candidates : List ℕ) → IsDefinition live clause candidates → list_all is_id candidates ≡ true
candidates_in_range live top numbers small clause candidates definition =
    ids_in_range live top numbers small candidates (all_candidates_live live definition.pivot candidates (λ id h. definition.named id ∙ h))

-- so are the groups of candidates that want no hints
bare_groups_in_range : (candidates : List ℕ) → list_all is_id candidates ≡ true → list_all is_group (bare_groups candidates) ≡ true
bare_groups_in_range [] h = refl
bare_groups_in_range (candidate ∷ candidates) h =
    let parts = and_parts (is_id candidate) (list_all is_id candidates) h in
    and_from (is_id candidate && true) (list_all is_group (bare_groups candidates)) (and_from (is_id candidate) true parts.0 refl)
    (bare_groups_in_range candidates parts.1)

-- the line under the next number can be read again
next_printable : (top : ℕ) (clause : List ℤ) (hints : List ℕ) (groups : List Group) → top + 1 ≤ max_id
    → list_all (is_literal_of max_literal) clause ≡ true
    → list_all is_id hints ≡ true → list_all is_group groups ≡ true → is_printable (Add (top + 1) clause hints groups) ≡ true
next_printable top clause hints groups small literals ids all_groups =
    let number : is_id (top + 1) ≡ true = and_from (nat_lt 0 (top + 1)) (nat_le (top + 1) max_id) (lt-ltb 0 (top + 1) (omega arith))
    (le-leb (top + 1) max_id small) in
    let front : (is_id (top + 1) && list_all (is_literal_of max_literal) clause)
    ≡ true = and_from (is_id (top + 1)) (list_all (is_literal_of max_literal) clause) number literals in
    and_from (is_id (top + 1) && list_all (is_literal_of max_literal) clause && list_all is_id hints) (list_all is_group groups)
    (and_from (is_id (top + 1) && list_all (is_literal_of max_literal) clause) (list_all is_id hints) front ids) all_groups

pub hints_printable : (live : Live) (top : ℕ) → AreNumbers live top → top + 1 ≤ max_id → (clause : List ℤ)
    → list_all (is_literal_of max_literal) clause ≡ true
    → (hints : List ℕ) → list_all (λ id. is_some (clause_at live id)) hints ≡ true → is_printable (Add (top + 1) clause hints []) ≡ true
hints_printable live top numbers small clause literals hints all_live =
    next_printable top clause hints [] small literals (ids_in_range live top numbers (omega arith) hints all_live) refl

pub candidates_printable : (live : Live) (top : ℕ) → AreNumbers live top → top + 1 ≤ max_id → (clause : List ℤ)
    → list_all (is_literal_of max_literal) clause ≡ true
    → (candidates : List ℕ) → IsDefinition live clause candidates → is_printable (Add (top + 1) clause [] (bare_groups candidates)) ≡ true
candidates_printable live top numbers small clause literals candidates definition =
    next_printable top clause [] (bare_groups candidates) small literals refl
    (bare_groups_in_range candidates (candidates_in_range live top numbers (omega arith) clause candidates definition))

-- what stands under a number once a clause was put under one
abbrev pub LiveLaw : Type 0
LiveLaw = (live : Live) (id other : ℕ) (clause : List ℤ) → clause_at (with_clause live id clause) other
    ≡ (if other == id then Some clause else clause_at live other)

pub at_other : LiveLaw → (live : Live) (id other : ℕ) (clause : List ℤ) → (other ≡ id → ⊥) → clause_at (with_clause live id clause) other
    ≡ clause_at live other
at_other law live id other clause ne = law live id other clause ∙ ap (λ b. if b then Some clause else clause_at live other)
    (ne_eqb other id ne)

-- a derivation with one good step more
abbrev pub MoreLaw : Type 0
MoreLaw = (clauses : List (List ℤ)) (steps : List Step) (state : State) (step : Step) → IsDerivation clauses steps state
    → step_fault state step ≡ None
    → IsTrue (is_printable step) → IsTrue (deletes_added (length clauses) state step)
    → IsDerivation clauses (steps ++ step ∷ []) (after_step state step)

-- the steps lead where one more leads from where they led
pub more_leads : (clauses : List (List ℤ)) (steps : List Step) (state : State) (step : Step) → after_steps (start clauses) steps ≡ state
    → after_steps (start clauses) (steps ++ step ∷ []) ≡ after_step state step
more_leads clauses steps state step is = after_steps-append (start clauses) steps (step ∷ []) ∙ ap (λ s. after_step s step) is

-- a good addition under the next number keeps a proof one
pub addition_proof : LiveLaw → MoreLaw → (clauses : List (List ℤ)) (steps : List Step) (state : State) (clause : List ℤ)
    (hints : List ℕ) (groups : List Group) → fault state (state.top + 1) clause hints groups ≡ None
    → is_printable (Add (state.top + 1) clause hints groups) ≡ true → IsProofOf clauses steps state
    → IsProofOf clauses (steps ++ Add (state.top + 1) clause hints groups ∷ []) (with_next state clause)
addition_proof law more clauses steps state clause hints groups good printable proof =
    let step = Add (state.top + 1) clause hints groups in
    record {
      derived = more clauses steps state step proof.derived good printable refl;
      leads = more_leads clauses steps state step proof.leads;
      formula = λ i lt. at_other law state.live (state.top + 1) (i + 1) clause (λ same. omega (arith, proof.from_formula))
          ∙ proof.formula i lt;
      numbers = λ id other is.
          elim (cases_eq id (state.top + 1)) [
            | inl same ↦ (omega arith, omega arith)
            | inr differ ↦ let range = proof.numbers id other (sym (at_other law state.live (state.top + 1) id clause differ) ∙ is) in
                (range.0, omega (arith, range.1))
          ];
      from_formula = omega (arith, proof.from_formula);
    }
