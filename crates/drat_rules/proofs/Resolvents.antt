-- An addition is sound: where the added clause doesn't hold, making its pivot true keeps each clause.
use Rattle.std.proofs.Common.{◌≡◌, ◌==◌, ◌⊎◌, suc, Bool, true, false, cond, not, ◌||◌, ℤ, pos, negsuc, neg_ℤ, List, [], ◌∷◌, ◌++◌}
use Rattle.std.proofs.Common.{None, Some, if◌then◌else◌, int_eq, refl, sym, ap, ◌∙◌, inl, inr, eqb-true, eq-eqb}
use Rattle.std.specs.List.{filter, list_all}
use Rattle.std.proofs.lemmas.Bool.{and_parts, and_from, or_cases, or_parts, or_left, or_right, not-true, both_ways}
use Rattle.std.proofs.lemmas.List.Folds.{list_any-append, list_all-append}
use Rattle.std.proofs.lemmas.Cmp.{int_eq_equiv}
use Rattle.cnf_base.specs.Truth.{Assignment, literal_holds, clause_holds, Satisfies}
use Rattle.lrat_rules.specs.declared.outcome.Reason.TheVariants.{CandidateOpen}
use Rattle.lrat_rules.specs.Addition.{holds_negated}
use Rattle.lrat_rules.specs.Soundness.{make_true, is_nonzero, has_no_zero}
use Rattle.drat_rules.specs.Quiet.{has_quiet}
use Rattle.drat_rules.specs.Addition.{others_of, passes_candidate, open_fault, drat_fault}
use Rattle.drat_rules.specs.Soundness.{SatisfiesAllUpToPivot, have_no_zero}
use Rattle.drat_rules.proofs.Members.{eq-int_eq}
use Rattle.drat_rules.proofs.Falsified.{clause_holds-none}

literal_holds-make_true : (pivot : ℤ) (a : Assignment) → literal_holds (make_true pivot a) pivot ≡ true
literal_holds-make_true (pos n) a = rw (eq-eqb n n refl)
literal_holds-make_true (negsuc n) a = rw (eq-eqb (suc n) (suc n) refl)

-- each literal but the pivot's negation that held holds still
literal_kept : (pivot : ℤ) (a : Assignment) (x : ℤ) → int_eq x (neg_ℤ pivot) ≡ false → literal_holds a x ≡ true
    → literal_holds (make_true pivot a) x ≡ true
literal_kept (pos n) a (pos m) e h = elim (m == n) as (λ b. cond b true (a m) ≡ true) [ true ↦ refl | false ↦ h ]
literal_kept (pos n) a (negsuc m) e h =
    elim (suc m == n) as (λ b. (suc m == n) ≡ b → not (cond b true (a (suc m))) ≡ true) [
      | true ↦ λ same. absurd (both_ways (int_eq (negsuc m) (neg_ℤ (pos n))) e
          (eq-int_eq (negsuc m) (neg_ℤ (pos n)) (ap (λ k. neg_ℤ (pos k)) (eqb-true (suc m) n same))))
      | false ↦ λ other. h
    ] refl
literal_kept (negsuc n) a (pos m) e h =
    elim (m == suc n) as (λ b. (m == suc n) ≡ b → cond b false (a m) ≡ true) [
      | true ↦ λ same. absurd (both_ways (int_eq (pos m) (pos (suc n))) e
          (eq-int_eq (pos m) (pos (suc n)) (ap pos (eqb-true m (suc n) same))))
      | false ↦ λ other. h
    ] refl
literal_kept (negsuc n) a (negsuc m) e h = elim (suc m == suc n) as (λ b. not (cond b false (a (suc m))) ≡ true) [ true ↦ refl | false ↦ h ]

-- so does each clause that holds by another literal
clause_kept : (pivot : ℤ) (a : Assignment) (clause : List ℤ) → clause_holds a (others_of pivot clause) ≡ true
    → clause_holds (make_true pivot a) clause ≡ true
clause_kept pivot a [] h = h
clause_kept pivot a (x ∷ xs) h =
    elim (int_eq x (neg_ℤ pivot))
    as (λ b. int_eq x (neg_ℤ pivot) ≡ b → clause_holds a (cond (not b) (x ∷ others_of pivot xs) (others_of pivot xs)) ≡ true
    → clause_holds (make_true pivot a) (x ∷ xs) ≡ true) [
      | true ↦ λ e rest. or_right (literal_holds (make_true pivot a) x) _ (clause_kept pivot a xs rest)
      | false ↦ λ e some. elim (or_cases (literal_holds a x) _ some) [
        | inl here ↦ or_left _ _ (literal_kept pivot a x e here)
        | inr later ↦ or_right (literal_holds (make_true pivot a) x) _ (clause_kept pivot a xs later)
      ]
    ] refl h

-- a clause without the pivot's negation
others_of-free : (pivot : ℤ) (clause : List ℤ) → holds_negated pivot clause ≡ false → others_of pivot clause ≡ clause
others_of-free pivot [] free = refl
others_of-free pivot (x ∷ xs) free =
    let parts : (int_eq (neg_ℤ pivot) x ≡ false) × (holds_negated pivot xs ≡ false) = or_parts (int_eq (neg_ℤ pivot) x) _ free in
    let other : int_eq x (neg_ℤ pivot) ≡ false = int_eq_equiv.symm x (neg_ℤ pivot) ∙ parts.0 in
    rw other (ap (λ l. x ∷ l) (others_of-free pivot xs parts.1))

no_zero-filter : (p : ℤ → Bool) (clause : List ℤ) → has_no_zero clause ≡ true → has_no_zero (filter p clause) ≡ true
no_zero-filter p [] z = z
no_zero-filter p (x ∷ xs) z =
    let rest : has_no_zero (filter p xs) ≡ true = no_zero-filter p xs (and_parts (is_nonzero x) _ z).1 in
    elim (p x) as (λ b. has_no_zero (cond b (x ∷ filter p xs) (filter p xs)) ≡ true) [
      | true ↦ and_from _ _ (and_parts (is_nonzero x) _ z).0 rest
      | false ↦ rest
    ]

or_second : (b c : Bool) → b ≡ false → (b || c) ≡ true → c ≡ true
or_second true c e h = cc
or_second false c e h = h

passes : (c q : Bool) → (not c || not q) ≡ true → (c ≡ false) ⊎ (q ≡ false)
passes false q h = inl refl
passes true q h = inr (not-true q h)

-- where the added clause doesn't hold, a clause that passes as a candidate holds by another literal
module _ (a : Assignment) (clauses : List (List ℤ)) (pivot : ℤ) (clause : List ℤ) (s : Satisfies a clauses)
    (z : have_no_zero clauses ≡ true) (own : has_no_zero clause ≡ true) (fails : clause_holds a clause ≡ false) where
  candidate_kept : (other : List ℤ) → passes_candidate clauses pivot clause other ≡ true → clause_holds a other ≡ true
      → has_no_zero other ≡ true → clause_holds (make_true pivot a) other ≡ true
  candidate_kept other p h nonzero =
      clause_kept pivot a other (elim (passes (holds_negated pivot other) (has_quiet clauses (clause ++ others_of pivot other)) p) [
        | inl free ↦ ap (clause_holds a) (others_of-free pivot other free) ∙ h
        | inr none ↦
            let no_zero : has_no_zero (clause ++ others_of pivot other) ≡ true =
            list_all-append is_nonzero clause (others_of pivot other) ∙ and_from _ _ own (no_zero-filter _ other nonzero) in
            let holds : clause_holds a (clause ++ others_of pivot other) ≡ true =
            clause_holds-none a clauses (clause ++ others_of pivot other) s z no_zero none in
            or_second (clause_holds a clause) _ fails (sym (list_any-append (literal_holds a) clause (others_of pivot other)) ∙ holds)
      ])

  all_kept : (others : List (List ℤ)) → list_all (passes_candidate clauses pivot clause) others ≡ true
      → list_all (clause_holds a) others ≡ true
      → have_no_zero others ≡ true → list_all (clause_holds (make_true pivot a)) others ≡ true
  all_kept [] p h nonzero = refl
  all_kept (other ∷ others) p h nonzero =
      and_from _ _ (candidate_kept other (and_parts (passes_candidate clauses pivot clause other) _ p).0
      (and_parts (clause_holds a other) _ h).0 (and_parts (has_no_zero other) _ nonzero).0)
      (all_kept others (and_parts (passes_candidate clauses pivot clause other) _ p).1 (and_parts (clause_holds a other) _ h).1
      (and_parts (has_no_zero other) _ nonzero).1)

pub Satisfies-push : (a : Assignment) (clauses : List (List ℤ)) (clause : List ℤ) → Satisfies a clauses → clause_holds a clause ≡ true
    → Satisfies a (clauses ++ clause ∷ [])
Satisfies-push a clauses clause s h =
    list_all-append (clause_holds a) clauses (clause ∷ []) ∙ and_from _ _ s (and_from _ _ h refl)

up_to_pivot : (a : Assignment) (clause : List ℤ) (clauses : List (List ℤ)) → Satisfies a clauses → SatisfiesAllUpToPivot a clause clauses
up_to_pivot a [] clauses s = s
up_to_pivot a (pivot ∷ clause) clauses s = inl s

if_none : (b : Bool) → (if b then None else Some CandidateOpen) ≡ None → b ≡ true
if_none true h = refl
if_none false h = cc

resolvents_sound : (a : Assignment) (clauses : List (List ℤ)) (clause : List ℤ) → Satisfies a clauses → have_no_zero clauses ≡ true
    → has_no_zero clause ≡ true
    → clause_holds a clause ≡ false → open_fault clauses clause ≡ None → SatisfiesAllUpToPivot a clause (clauses ++ clause ∷ [])
resolvents_sound a clauses [] s z own fails h = cc
resolvents_sound a clauses (pivot ∷ others) s z own fails h =
    inr (Satisfies-push (make_true pivot a) clauses (pivot ∷ others)
    (all_kept a clauses pivot (pivot ∷ others) s z own fails clauses (if_none _ h) s z)
    (or_left _ _ (literal_holds-make_true pivot a)))

-- a good addition
pub SatisfiesAllUpToPivot-drat_fault : (a : Assignment) (clauses : List (List ℤ)) (clause : List ℤ) → Satisfies a clauses
    → have_no_zero clauses ≡ true
    → has_no_zero clause ≡ true → drat_fault clauses clause ≡ None → SatisfiesAllUpToPivot a clause (clauses ++ clause ∷ [])
SatisfiesAllUpToPivot-drat_fault a clauses clause s z own good =
    elim (clause_holds a clause) as (λ b. clause_holds a clause ≡ b → SatisfiesAllUpToPivot a clause (clauses ++ clause ∷ [])) [
      | true ↦ λ e. up_to_pivot a clause (clauses ++ clause ∷ []) (Satisfies-push a clauses clause s e)
      | false ↦ λ e. elim (has_quiet clauses clause)
          as (λ b. has_quiet clauses clause ≡ b → (if b then open_fault clauses clause else None) ≡ None
          → SatisfiesAllUpToPivot a clause (clauses ++ clause ∷ [])) [
            | true ↦ λ found h. resolvents_sound a clauses clause s z own e h
            | false ↦ λ none h. absurd (both_ways (clause_holds a clause) e (clause_holds-none a clauses clause s z own none))
          ] refl good
    ] refl
