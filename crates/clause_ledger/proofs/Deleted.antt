-- One deletion more keeps the proof, where it deletes only clauses that were added.
use Rattle.std.proofs.Common.{◌≡◌, ◌==◌, ℕ, ◌+◌, ◌<◌, ◌≤◌, ◌≢◌, Bool, true, ◌&&◌, not, cond, ℤ, List, [], ◌∷◌, ◌++◌, length, get_or, take, Some}
use Rattle.std.proofs.Common.{None, inl, inr, refl, sym, ◌∙◌, ap, arith, eq-eqb}
use Rattle.std.proofs.lemmas.Bool.{and_parts, and_from, lt-ltb, le-leb, ltb-true, ne_eqb, cases_eq}
use Rattle.std.proofs.lemmas.Cmp.{nat_cmp_total}
use Rattle.std.proofs.lemmas.List.{take_more}
use Rattle.std.specs.Prelude.{is_some, nat_eq, nat_lt, nat_le}
use Rattle.std.specs.List.{list_all}
use Rattle.std.specs.Cmp.{unsigned_tied}
use Rattle.std.specs.FinMap as finmap
use Rattle.cnf_base.specs.declared.step.Step.{Step}
use Rattle.cnf_base.specs.declared.step.Step.TheVariants.{Delete}
use Rattle.cnf_base.specs.ProofText.{max_id, is_empty, is_id, is_printable}
use Rattle.lrat_rules.specs.State.{State, Live, clause_at, without_clauses}
use Rattle.lrat_rules.specs.Derivation.{are_added}
use Rattle.clause_ledger.specs.Book.{IsProofOf, AreNumbers, deletion}
use Rattle.clause_ledger.proofs.Added.{MoreLaw, more_leads}

-- one number more is taken out
without-append : (live : Live) (front back : List ℕ) → without_clauses live (front ++ back)
    ≡ without_clauses (without_clauses live front) back
without-append live [] back = refl
without-append live (id ∷ front) back = without-append (finmap.remove live id) front back

pub removed_at : (live : Live) (id other : ℕ) (b : Bool) → (nat_eq other id) ≡ b → clause_at (finmap.remove live id) other
    ≡ cond b None (clause_at live other)
removed_at live id other b is = finmap.get-remove nat_cmp_total live id other
    ∙ ap (λ b. cond b None (clause_at live other)) (unsigned_tied other id ∙ is)

-- what is still live was live
was_live : (live : Live) (id other : ℕ) (clause : List ℤ) → clause_at (finmap.remove live id) other ≡ Some clause → clause_at live other
    ≡ Some clause
was_live live id other clause is =
    elim (cases_eq other id) [
      | inl same ↦ let none : None ≡ Some clause = sym (removed_at live id other true (eq-eqb other id same)) ∙ is in cc
      | inr differ ↦ sym (removed_at live id other _ (ne_eqb other id differ)) ∙ is
    ]

fewer_numbers : (live : Live) (top id : ℕ) → AreNumbers live top → AreNumbers (finmap.remove live id) top
fewer_numbers live top id numbers other clause is = numbers other clause (was_live live id other clause is)

pub numbers_without : (live : Live) (top : ℕ) (ids : List ℕ) → AreNumbers live top → AreNumbers (without_clauses live ids) top
numbers_without live top [] numbers = numbers
numbers_without live top (id ∷ ids) numbers = numbers_without (finmap.remove live id) top ids (fewer_numbers live top id numbers)

live_in_range : (live : Live) (top id : ℕ) → AreNumbers live top → top ≤ max_id → is_some (clause_at live id) ≡ true → is_id id ≡ true
live_in_range live top id numbers small some =
    elim (clause_at live id) as (λ o. clause_at live id ≡ o → is_some o ≡ true → is_id id ≡ true) [
      | None ↦ λ is none. cc
      | Some clause ↦ λ is _. let range = numbers id clause is in
          and_from (nat_lt 0 id) (nat_le id max_id) (lt-ltb 0 id range.0) (le-leb id max_id (omega (arith, range.1)))
    ] refl some

-- numbers that may be deleted are in range
added_in_range : (count : ℕ) (live : Live) (top : ℕ) → AreNumbers live top → top ≤ max_id → (ids : List ℕ) → are_added count live ids ≡ true
    → list_all is_id ids ≡ true
added_in_range count live top numbers small [] h = refl
added_in_range count live top numbers small (id ∷ ids) h =
    let parts = and_parts (nat_lt count id && is_some (clause_at live id)) (are_added count (finmap.remove live id) ids) h in
    let here = and_parts (nat_lt count id) (is_some (clause_at live id)) parts.0 in
    and_from (is_id id) (list_all is_id ids) (live_in_range live top id numbers small here.1)
    (added_in_range count (finmap.remove live id) top (fewer_numbers live top id numbers) small ids parts.1)

-- the clauses under the numbers up to this one stay
formula_stays : (count : ℕ) (live : Live) (ids : List ℕ) → are_added count live ids ≡ true → (other : ℕ) → other ≤ count
    → clause_at (without_clauses live ids) other ≡ clause_at live other
formula_stays count live [] h other le = refl
formula_stays count live (id ∷ ids) h other le =
    let parts = and_parts (nat_lt count id && is_some (clause_at live id)) (are_added count (finmap.remove live id) ids) h in
    let above : count < id = ltb-true count id (and_parts (nat_lt count id) (is_some (clause_at live id)) parts.0).0 in
    let differ : other ≢ id = λ same. omega arith in
    formula_stays count (finmap.remove live id) ids parts.1 other le ∙ removed_at live id other _ (ne_eqb other id differ)

abbrev pub without : State → List ℕ → State
without state ids = record { live = without_clauses state.live ids; top = state.top }

some_ids : (ids : List ℕ) → (ids ≡ [] → ⊥) → not (is_empty ids) ≡ true
some_ids [] some = absurd (some refl)
some_ids (id ∷ ids) some = refl

-- so does a deletion of clauses that were added
pub deletion_proof : MoreLaw → (clauses : List (List ℤ)) (steps : List Step) (state : State) (ids : List ℕ) → state.top ≤ max_id
    → (ids ≡ [] → ⊥) → are_added (length clauses) state.live ids ≡ true → IsProofOf clauses steps state
    → IsProofOf clauses (steps ++ Delete state.top ids ∷ []) (without state ids)
deletion_proof more clauses steps state ids small some added proof =
    let step = Delete state.top ids in
    let printable : is_printable step ≡ true = and_from (nat_le state.top max_id) (list_all is_id ids) (le-leb state.top max_id small)
    (added_in_range (length clauses) state.live state.top proof.numbers small ids added) in
    record {
      derived = more clauses steps state step proof.derived refl printable
          (and_from (state.top == state.top && not (is_empty ids)) (are_added (length clauses) state.live ids)
          (and_from (state.top == state.top) (not (is_empty ids)) (eq-eqb state.top state.top refl) (some_ids ids some)) added);
      leads = more_leads clauses steps state step proof.leads;
      formula = λ i lt. formula_stays (length clauses) state.live ids added (i + 1) (omega (arith, lt)) ∙ proof.formula i lt;
      numbers = numbers_without state.live state.top ids proof.numbers;
      from_formula = proof.from_formula;
    }

pub without_more : (live : Live) (ids : List ℕ) (i id : ℕ) → i < length ids → id ≡ get_or ids i id → without_clauses live (take (i + 1) ids)
    ≡ finmap.remove (without_clauses live (take i ids)) id
without_more live ids i id lt is =
    ap (without_clauses live) (take_more ids i id lt) ∙ without-append live (take i ids) (get_or ids i id ∷ [])
    ∙ ap (finmap.remove (without_clauses live (take i ids))) (sym is)

-- some numbers are deleted by one step
pub one_deletion : (state : State) (ids : List ℕ) → (ids ≡ [] → ⊥) → deletion state ids ≡ Delete state.top ids ∷ []
one_deletion state [] some = absurd (some refl)
one_deletion state (id ∷ ids) some = refl
