-- At the start no extension variable is in use.
use Rattle.std.proofs.Common.{◌≡◌, ℕ, true, false, cond, ℤ, List, [], ◌∷◌, ◌++◌, None, Some, nat_cmp, refl, ap, ◌∙◌}
use Rattle.std.specs.Prelude.{nat_abs, nat_lt, nat_le, map}
use Rattle.std.specs.List.{filter, flat_map, list_all}
use Rattle.std.specs.FinMap as finmap
use Rattle.std.specs.FinSet as finset
use Rattle.std.proofs.lemmas.Bool.{and_parts, leb-true, le-ltb}
use Rattle.cnf_base.specs.Truth.{is_literal_of, AreClausesOf}
use Rattle.lrat_rules.specs.State.{Live, clause_at, start}
use Rattle.lrat_rules.specs.Marks.{variables_of, in_use}
use Rattle.lrat_rules.proofs.SoundSteps.{LivePass, LivePass-start}

-- the variables above vars of the first items and of the others
filter_both : (vars : ℕ) (xs ys : List ℕ) → filter (nat_lt vars) xs ≡ [] → filter (nat_lt vars) ys ≡ [] → filter (nat_lt vars) (xs ++ ys)
    ≡ []
filter_both vars [] ys none more = more
filter_both vars (x ∷ xs) ys none more =
    elim (nat_lt vars x) as (λ b. cond b (x ∷ filter (nat_lt vars) xs) (filter (nat_lt vars) xs) ≡ []
    → cond b (x ∷ filter (nat_lt vars) (xs ++ ys)) (filter (nat_lt vars) (xs ++ ys)) ≡ []) [
      | true ↦ λ e. cc
      | false ↦ λ e. filter_both vars xs ys e more
    ] none

none_in_clause : (vars : ℕ) (clause : List ℤ) → list_all (is_literal_of vars) clause ≡ true → filter (nat_lt vars) (map nat_abs clause) ≡ []
none_in_clause vars [] all = refl
none_in_clause vars (literal ∷ clause) all =
    let parts = and_parts (is_literal_of vars literal) (list_all (is_literal_of vars) clause) all in
    let small = leb-true (nat_abs literal) vars (and_parts (nat_lt 0 (nat_abs literal)) (nat_le (nat_abs literal) vars) parts.0).1 in
    ap (λ b. cond b (nat_abs literal ∷ filter (nat_lt vars) (map nat_abs clause)) (filter (nat_lt vars) (map nat_abs clause)))
    (le-ltb vars (nat_abs literal) small) ∙ none_in_clause vars clause parts.1

none_at : (vars : ℕ) (live : Live) → LivePass (list_all (is_literal_of vars)) live → (id : ℕ)
    → filter (nat_lt vars) (variables_of (clause_at live id)) ≡ []
none_at vars live each id =
    elim (clause_at live id) as (λ o. clause_at live id ≡ o → filter (nat_lt vars) (variables_of o) ≡ []) [
      | None ↦ λ _. refl
      | Some clause ↦ λ is. none_in_clause vars clause (each id clause is)
    ] refl

none_among : (vars : ℕ) (live : Live) → LivePass (list_all (is_literal_of vars)) live → (ids : List ℕ)
    → filter (nat_lt vars) (flat_map (λ id. variables_of (clause_at live id)) ids) ≡ []
none_among vars live each [] = refl
none_among vars live each (id ∷ ids) = filter_both vars (variables_of (clause_at live id))
    (flat_map (λ i. variables_of (clause_at live i)) ids) (none_at vars live each id) (none_among vars live each ids)

pub in_use-start : (vars : ℕ) (clauses : List (List ℤ)) → AreClausesOf vars clauses → in_use vars (start clauses) ≡ 0
in_use-start vars clauses ranges =
    ap (λ xs. finset.len (finset.from_list {R = nat_cmp} xs)) (none_among vars (start clauses).live
    (LivePass-start (list_all (is_literal_of vars)) clauses ranges) (finmap.keys (start clauses).live))
    ∙ finset.len-empty nat_cmp
