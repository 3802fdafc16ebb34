-- How often a clause stands in a list that grows at its end, or loses the first of its kind; and that it is counted where it
-- stands.
use Rattle.std.proofs.Common.{◌≡◌, ℕ, ◌+◌, ◌<◌, Bool, true, false, cond, ◌||◌, ℤ, List, [], ◌∷◌, ◌++◌, refl, sym, ap, ◌∙◌, subst, arith}
use Rattle.std.proofs.Common.{inl, inr}
use Rattle.std.specs.List.{list_any, list_all, count_by}
use Rattle.std.proofs.lemmas.Bool.{and_parts, or_cases, and_from, or_left, or_right, or_parts}
use Rattle.std.proofs.lemmas.Bool.Decides.{Decides-int_eq}
use Rattle.std.proofs.lemmas.List.Sums.{sum_by-cons, sum_by_push}
use Rattle.std.proofs.lemmas.Slice.Eq.{slice_eq-Decides}
use Rattle.drat_rules.specs.Clauses.{same_list, is_among, count_of, without_first}

-- the test of two clauses, both ways
pub same_list-true : (c d : List ℤ) → same_list c d ≡ true → c ≡ d
same_list-true c d h = (slice_eq-Decides Decides-int_eq c d (same_list c d) refl).0 h

pub eq-same_list : (c d : List ℤ) → c ≡ d → same_list c d ≡ true
eq-same_list c d e = (slice_eq-Decides Decides-int_eq c d (same_list c d) refl).1 e

-- one for a clause of its kind
abbrev pub one_if : Bool → ℕ
one_if b = cond b 1 0

pub count-cons : (p : List ℤ → Bool) (c : List ℤ) (cs : List (List ℤ)) → count_by p (c ∷ cs) ≡ one_if (p c) + count_by p cs
count-cons p c cs = sum_by-cons (λ x. cond (p x) 1 0) c cs

pub count-push : (p : List ℤ → Bool) (cs : List (List ℤ)) (c : List ℤ) → count_by p (cs ++ c ∷ []) ≡ count_by p cs + one_if (p c)
count-push p cs c = sum_by_push (λ x. cond (p x) 1 0) cs c

-- some clause passes exactly where the count isn't 0
pub counted : (p : List ℤ → Bool) (cs : List (List ℤ)) → list_any p cs ≡ true → 0 < count_by p cs
counted p [] h = cc
counted p (c ∷ cs) h =
    let some : 0 < one_if (p c) + count_by p cs =
    elim (p c) as (λ b. (b || list_any p cs) ≡ true → 0 < one_if b + count_by p cs) [
      | true ↦ λ here. omega arith
      | false ↦ λ later. let rest : 0 < count_by p cs = counted p cs later in omega arith
    ] h in
    subst (λ (k : ℕ). 0 < k) (sym (count-cons p c cs)) some

pub found : (p : List ℤ → Bool) (cs : List (List ℤ)) → 0 < count_by p cs → list_any p cs ≡ true
found p [] h = absurd (omega arith)
found p (c ∷ cs) h =
    let some : 0 < one_if (p c) + count_by p cs = subst (λ (k : ℕ). 0 < k) (count-cons p c cs) h in
    elim (p c) as (λ b. 0 < one_if b + count_by p cs → (b || list_any p cs) ≡ true) [
      | true ↦ λ here. refl
      | false ↦ λ later. found p cs (omega arith)
    ] some

-- a clause that stands in a list passes what each of the list passes
pub at_clause : (p : List ℤ → Bool) (cs : List (List ℤ)) (c : List ℤ) → list_all p cs ≡ true → list_any (same_list c) cs ≡ true → p c ≡ true
at_clause p [] c all any = cc
at_clause p (d ∷ ds) c all any =
    elim (or_cases (same_list c d) _ any) [
      | inl here ↦ subst (λ e. p e ≡ true) (sym (same_list-true c d here)) (and_parts (p d) _ all).0
      | inr later ↦ at_clause p ds c (and_parts (p d) _ all).1 later
    ]

-- a clause that is taken out is counted once less, and the others as before
same_tests : (c d : List ℤ) → same_list c d ≡ true → (e : List ℤ) → same_list e c ≡ same_list e d
same_tests c d h e = ap (same_list e) (same_list-true c d h)

pub count-without_first : (e c : List ℤ) (cs : List (List ℤ)) → list_any (same_list c) cs ≡ true
    → count_of e cs ≡ one_if (same_list e c) + count_of e (without_first c cs)
count-without_first e c [] h = cc
count-without_first e c (d ∷ ds) h =
    elim (same_list c d)
    as (λ b. same_list c d ≡ b → (b || list_any (same_list c) ds) ≡ true
    → count_of e (d ∷ ds) ≡ one_if (same_list e c) + count_of e (cond b ds (d ∷ without_first c ds))) [
      | true ↦ λ same any. count-cons (same_list e) d ds ∙ ap (λ b. one_if b + count_of e ds) (sym (same_tests c d same e))
      | false ↦ λ other any.
          let rest : count_of e ds ≡ one_if (same_list e c) + count_of e (without_first c ds) = count-without_first e c ds any in
          let whole : count_of e (d ∷ ds) ≡ one_if (same_list e d) + count_of e ds = count-cons (same_list e) d ds in
          let left : count_of e (d ∷ without_first c ds) ≡ one_if (same_list e d) + count_of e (without_first c ds) =
          count-cons (same_list e) d (without_first c ds) in
          omega arith
    ] refl h

-- what each clause of a list passes by itself, all pass
pub all_clauses : (p : List ℤ → Bool) (cs : List (List ℤ)) → ((c : List ℤ) → list_any (same_list c) cs ≡ true → p c ≡ true)
    → list_all p cs ≡ true
all_clauses p [] each = refl
all_clauses p (c ∷ cs) each =
    and_from _ _ (each c (or_left _ _ (eq-same_list c c refl)))
    (all_clauses p cs (λ d m. each d (or_right (same_list d c) _ m)))

-- a clause that isn't there
pub without_none : (c : List ℤ) (cs : List (List ℤ)) → is_among cs c ≡ false → without_first c cs ≡ cs
without_none c [] none = refl
without_none c (d ∷ ds) none =
    let parts : (same_list c d ≡ false) × (is_among ds c ≡ false) = or_parts (same_list c d) _ none in
    ap (λ b. cond b ds (d ∷ without_first c ds)) parts.0 ∙ ap (λ l. d ∷ l) (without_none c ds parts.1)
