-- A stored formula, and a formula in the making with a literal or an end more.
use Rattle.std.proofs.Common.{◌≡◌, ℕ, ◌<◌, ◌≤◌, true, ◌&&◌, ℤ, List, [], ◌∷◌, ◌++◌, length, get_or, drop, refl, sym, ◌∙◌, ap, subst, arith}
use Rattle.std.proofs.Common.{length-append}
use Rattle.std.proofs.lemmas.Bool.{le-leb, lt-ltb, and_from}
use Rattle.std.proofs.lemmas.List.{drop-append-le, drop_all}
use Rattle.std.proofs.lemmas.List.Folds.{list_all-append}
use Rattle.std.specs.Prelude.{nat_lt, nat_le, nat_abs, slice_range, slice_index_or}
use Rattle.std.specs.List.{list_all}
use Rattle.cnf_base.specs.Truth.{is_literal_of}
use Rattle.cnf_base.specs.Formula.{Formula, Draft, IsFormula, IsStored, cut_at, last_end, start_at, are_ends}
pub use Rattle.cnf_base.specs.Cut.{length-cut_at, are_ends-last, are_ends-longer, are_ends-push, cut_at-append, cut_at-end, last_end-push}
pub use Rattle.cnf_base.specs.Cut.{range-to_end, cut_at-get, are_ends-get, list_all-cut_at}

-- a stored formula and its value
pub record Stores (vars : ℕ) (literals : List ℤ) (ends : List ℕ) (formula : Formula) : Type 0 where
  pub stored : IsStored vars literals ends
  pub value : record { vars = vars; clauses = cut_at literals 0 ends } ≡ formula

pub length-stored : {vars : ℕ} {literals : List ℤ} {ends : List ℕ} {formula : Formula} → Stores vars literals ends formula
    → length formula.clauses ≡ length ends
length-stored {vars} {literals} {ends} {formula} s = sym (ap (λ (f : Formula). length f.clauses) s.value) ∙ length-cut_at literals 0 ends

pub clause-stored : {vars : ℕ} {literals : List ℤ} {ends : List ℕ} {formula : Formula} → Stores vars literals ends formula → (k : ℕ) → k
    < length ends
    → slice_index_or formula.clauses k [] ≡ slice_range literals (start_at 0 ends k) (get_or ends k 0)
clause-stored {vars} {literals} {ends} {formula} s k lt = sym (ap (λ (f : Formula). slice_index_or f.clauses k []) s.value)
    ∙ cut_at-get literals 0 ends k lt

pub formula-stored : {vars : ℕ} {literals : List ℤ} {ends : List ℕ} {formula : Formula} → Stores vars literals ends formula
    → IsFormula formula
formula-stored {vars} {literals} {ends} {formula} s =
    subst (λ (f : Formula). IsFormula f) s.value (record {
      vars = s.stored.few_vars;
      count = subst (λ (n : ℕ). n ≤ 10000000) (sym (length-cut_at literals 0 ends)) s.stored.few_ends;
      literals = list_all-cut_at (is_literal_of vars) literals 0 ends s.stored.of_vars;
    })

-- a formula in the making, with one end more
pub stored-end : {vars : ℕ} {literals : List ℤ} {ends : List ℕ} → IsStored vars literals ends → length ends < 10000000 → (after : List ℕ)
    → after ≡ ends ++ length literals ∷ [] → IsStored vars literals after
stored-end {vars} {literals} {ends} s few after is =
    subst (λ (es : List ℕ). IsStored vars literals es) (sym is) (record {
      in_order = are_ends-push 0 (length literals) ends s.in_order;
      few_vars = s.few_vars;
      few_ends = omega (arith, length-append ends (length literals ∷ []));
      few_literals = s.few_literals;
      of_vars = s.of_vars;
    })

pub draft-end : (vars : ℕ) (literals : List ℤ) (ends after : List ℕ) (draft : Draft)
    → record { vars = vars; clauses = cut_at literals 0 ends; begun = drop (last_end 0 ends) literals } ≡ draft
    → after ≡ ends ++ length literals ∷ []
    → ◌≡◌ {A = Draft} (record { vars = vars; clauses = cut_at literals 0 after; begun = drop (last_end 0 after) literals })
    (record { vars = draft.vars; clauses = draft.clauses ++ draft.begun ∷ []; begun = [] })
draft-end vars literals ends after draft value is =
    let cut : cut_at literals 0 after ≡ cut_at literals 0 ends ++ drop (last_end 0 ends) literals ∷ [] =
    ap (λ (es : List ℕ). cut_at literals 0 es) is ∙ cut_at-end literals 0 (length literals) ends
    ∙ ap (λ c. cut_at literals 0 ends ++ c ∷ []) (range-to_end literals (last_end 0 ends)) in
    let rest : drop (last_end 0 after) literals ≡ [] =
    ap (λ (es : List ℕ). drop (last_end 0 es) literals) is ∙ ap (λ n. drop n literals) (last_end-push 0 (length literals) ends)
    ∙ drop_all (length literals) literals (omega arith) in
    let here : ◌≡◌ {A = Draft} (record { vars = vars; clauses = cut_at literals 0 after; begun = drop (last_end 0 after) literals })
    (record { vars = vars; clauses = cut_at literals 0 ends ++ drop (last_end 0 ends) literals ∷ []; begun = [] }) =
    λ i. record { vars = vars; clauses = cut i; begun = rest i } in
    here ∙ ap (λ (d : Draft). record { vars = d.vars; clauses = d.clauses ++ d.begun ∷ []; begun = [] }) value

-- and with one literal more
pub stored-push : {vars : ℕ} {literals : List ℤ} {ends : List ℕ} → IsStored vars literals ends → (literal : ℤ) → 0 < nat_abs literal
    → nat_abs literal ≤ vars → length literals < 4294967295
    → (after : List ℤ) → after ≡ literals ++ literal ∷ [] → IsStored vars after ends
stored-push {vars} {literals} {ends} s literal some small few after is =
    subst (λ (xs : List ℤ). IsStored vars xs ends) (sym is) (record {
      in_order = are_ends-longer 0 (length literals) (length (literals ++ literal ∷ [])) ends
          (omega (arith, length-append literals (literal ∷ []))) s.in_order;
      few_vars = s.few_vars;
      few_ends = s.few_ends;
      few_literals = omega (arith, length-append literals (literal ∷ []));
      of_vars = list_all-append (is_literal_of vars) literals (literal ∷ [])
          ∙ and_from (list_all (is_literal_of vars) literals) (is_literal_of vars literal
          && true) s.of_vars (and_from (is_literal_of vars literal) true
          (and_from (nat_lt 0 (nat_abs literal)) (nat_le (nat_abs literal) vars) (lt-ltb 0 (nat_abs literal) some)
          (le-leb (nat_abs literal) vars small)) refl);
    })

pub draft-push : (vars : ℕ) (literals after : List ℤ) (ends : List ℕ) (literal : ℤ) (draft : Draft) → are_ends 0 ends (length literals)
    ≡ true
    → record { vars = vars; clauses = cut_at literals 0 ends; begun = drop (last_end 0 ends) literals } ≡ draft
    → after ≡ literals ++ literal ∷ []
    → ◌≡◌ {A = Draft} (record { vars = vars; clauses = cut_at after 0 ends; begun = drop (last_end 0 ends) after })
    (record { vars = draft.vars; clauses = draft.clauses; begun = draft.begun ++ literal ∷ [] })
draft-push vars literals after ends literal draft order value is =
    let cut : cut_at after 0 ends ≡ cut_at literals 0 ends = ap (λ (xs : List ℤ). cut_at xs 0 ends) is
    ∙ cut_at-append literals (literal ∷ []) 0 ends order in
    let rest : drop (last_end 0 ends) after ≡ drop (last_end 0 ends) literals ++ literal ∷ [] =
    ap (λ (xs : List ℤ). drop (last_end 0 ends) xs) is ∙ drop-append-le (last_end 0 ends) literals (literal
    ∷ []) (are_ends-last 0 (length literals) ends order).1 in
    let here : ◌≡◌ {A = Draft} (record { vars = vars; clauses = cut_at after 0 ends; begun = drop (last_end 0 ends) after })
    (record { vars = vars; clauses = cut_at literals 0 ends; begun = drop (last_end 0 ends) literals ++ literal ∷ [] }) =
    λ i. record { vars = vars; clauses = cut i; begun = rest i } in
    here ∙ ap (λ (d : Draft). record { vars = d.vars; clauses = d.clauses; begun = d.begun ++ literal ∷ [] }) value
