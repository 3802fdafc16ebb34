-- The literals that an assignment makes false are a quiet set, where it satisfies the clauses and none of them has a 0. So a
-- clause whose literals no quiet set has holds under it.
use Rattle.std.proofs.Common.{◌≡◌, zero, suc, Bool, true, false, cond, not, ◌||◌, ◌&&◌, ℤ, pos, negsuc, neg_ℤ, List, [], ◌∷◌, int_eq}
use Rattle.std.proofs.Common.{refl, sym, ap, ◌∙◌}
use Rattle.std.proofs.Common.{if◌then◌else◌}
use Rattle.std.specs.List.{list_all}
use Rattle.std.proofs.lemmas.Bool.{and_parts, and_from, and_right, or_parts, or_from, or_left, or_right, not_from_false, not_from_true}
use Rattle.std.proofs.lemmas.Bool.{both_ways}
use Rattle.cnf_base.specs.Truth.{Assignment, literal_holds, clause_holds, Satisfies}
use Rattle.lrat_rules.specs.declared.outcome.Effect.TheVariants.{Unit as Forced, NotUnit}
use Rattle.lrat_rules.specs.Chain.{FalseSet, outside, effect_of_outside}
use Rattle.lrat_rules.specs.Soundness.{is_nonzero, has_no_zero}
use Rattle.drat_rules.specs.Quiet.{adds_nothing, closed_under, IsQuiet, has_quiet}
use Rattle.drat_rules.specs.Soundness.{have_no_zero}
use Rattle.drat_rules.proofs.Members.{int_eq-true}
use Rattle.drat_rules.proofs.QuietSets.{no_quiet}

-- the literals that are false under the assignment
abbrev pub falsified_by : Assignment → FalseSet
falsified_by a x = is_nonzero x && not (literal_holds a x)

not_not : (b : Bool) → b ≡ not (not b)
not_not true = refl
not_not false = refl

literal_holds-neg_ℤ : (a : Assignment) (x : ℤ) → is_nonzero x ≡ true → literal_holds a (neg_ℤ x) ≡ not (literal_holds a x)
literal_holds-neg_ℤ a (pos zero) h = cc
literal_holds-neg_ℤ a (pos (suc n)) h = refl
literal_holds-neg_ℤ a (negsuc n) h = not_not (a (suc n))

nonzero-neg_ℤ : (x : ℤ) → is_nonzero x ≡ true → is_nonzero (neg_ℤ x) ≡ true
nonzero-neg_ℤ (pos zero) h = h
nonzero-neg_ℤ (pos (suc n)) h = h
nonzero-neg_ℤ (negsuc n) h = h

negation_false : (a : Assignment) (x : ℤ) → is_nonzero x ≡ true → literal_holds a x ≡ true → falsified_by a (neg_ℤ x) ≡ true
negation_false a x z h =
    and_from _ _ (nonzero-neg_ℤ x z) (not_from_false _ (literal_holds-neg_ℤ a x z ∙ not_from_true _ h))

negation_true : (a : Assignment) (x : ℤ) → falsified_by a x ≡ true → falsified_by a (neg_ℤ x) ≡ false
negation_true a x f =
    let both : (is_nonzero x ≡ true) × (not (literal_holds a x) ≡ true) = and_parts (is_nonzero x) _ f in
    and_right (is_nonzero (neg_ℤ x)) _ (not_from_true _ (literal_holds-neg_ℤ a x both.0 ∙ both.1))

-- a literal that holds isn't false
outside_holds : (a : Assignment) (clause : List ℤ) → clause_holds a clause ≡ true → clause_holds a (outside (falsified_by a) clause) ≡ true
outside_holds a [] h = h
outside_holds a (x ∷ xs) h =
    elim (literal_holds a x)
    as (λ b. literal_holds a x ≡ b → (b || clause_holds a xs) ≡ true
    → clause_holds a (cond (not (is_nonzero x && not b)) (x ∷ outside (falsified_by a) xs) (outside (falsified_by a) xs)) ≡ true) [
      | true ↦ λ e some. rw (and_right (is_nonzero x) false refl) (or_left _ _ e)
      | false ↦ λ e some. elim (is_nonzero x)
          as (λ b. clause_holds a (cond (not (b && true)) (x ∷ outside (falsified_by a) xs) (outside (falsified_by a) xs)) ≡ true) [
            | true ↦ outside_holds a xs some
            | false ↦ or_right (literal_holds a x) _ (outside_holds a xs some)
          ]
    ] refl h

outside_no_zero : (n : FalseSet) (clause : List ℤ) → has_no_zero clause ≡ true → has_no_zero (outside n clause) ≡ true
outside_no_zero n [] h = h
outside_no_zero n (x ∷ xs) h =
    let rest : has_no_zero (outside n xs) ≡ true = outside_no_zero n xs (and_parts (is_nonzero x) _ h).1 in
    elim (n x) as (λ b. has_no_zero (cond (not b) (x ∷ outside n xs) (outside n xs)) ≡ true) [
      | true ↦ rest
      | false ↦ and_from _ _ (and_parts (is_nonzero x) _ h).0 rest
    ]

-- of copies of one literal, one of which holds, this one holds
copies_hold : (a : Assignment) (x : ℤ) (xs : List ℤ) → list_all (int_eq x) xs ≡ true → literal_holds a x ≡ false → clause_holds a xs ≡ false
copies_hold a x [] same h = refl
copies_hold a x (y ∷ ys) same h =
    or_from _ _ (ap (literal_holds a) (sym (int_eq-true x y (and_parts (int_eq x y) _ same).0)) ∙ h)
    (copies_hold a x ys (and_parts (int_eq x y) _ same).1 h)

forced_holds : (a : Assignment) (x : ℤ) (xs : List ℤ) → list_all (int_eq x) xs ≡ true → clause_holds a (x ∷ xs) ≡ true → literal_holds a x
    ≡ true
forced_holds a x xs same h =
    elim (literal_holds a x) as (λ b. literal_holds a x ≡ b → (b || clause_holds a xs) ≡ true → b ≡ true) [
      | true ↦ λ e some. refl
      | false ↦ λ e some. absurd (both_ways (clause_holds a xs) (copies_hold a x xs same e) some)
    ] refl h

adds_nothing-true : (a : Assignment) (xs : List ℤ) → clause_holds a xs ≡ true → has_no_zero xs ≡ true
    → adds_nothing (falsified_by a) (effect_of_outside xs) ≡ true
adds_nothing-true a [] h z = cc
adds_nothing-true a (x ∷ xs) h z =
    elim (list_all (int_eq x) xs)
    as (λ b. list_all (int_eq x) xs ≡ b → adds_nothing (falsified_by a) (if b then Forced x else NotUnit) ≡ true) [
      | true ↦ λ e. negation_false a x (and_parts (is_nonzero x) _ z).0 (forced_holds a x xs e h)
      | false ↦ λ e. refl
    ] refl

all_closed : (a : Assignment) (clauses : List (List ℤ)) → list_all (clause_holds a) clauses ≡ true → have_no_zero clauses ≡ true
    → list_all (closed_under (falsified_by a)) clauses ≡ true
all_closed a [] h z = refl
all_closed a (clause ∷ clauses) h z =
    and_from _ _ (adds_nothing-true a (outside (falsified_by a) clause) (outside_holds a clause (and_parts (clause_holds a clause) _ h).0)
    (outside_no_zero (falsified_by a) clause (and_parts (has_no_zero clause) _ z).0))
    (all_closed a clauses (and_parts (clause_holds a clause) _ h).1 (and_parts (has_no_zero clause) _ z).1)

pub IsQuiet-falsified_by : (a : Assignment) (clauses : List (List ℤ)) → Satisfies a clauses → have_no_zero clauses ≡ true
    → IsQuiet clauses (falsified_by a)
IsQuiet-falsified_by a clauses h z = record { apart = negation_true a; closed = all_closed a clauses h z }

-- a clause that doesn't hold has only false literals
all_false : (a : Assignment) (clause : List ℤ) → clause_holds a clause ≡ false → has_no_zero clause ≡ true
    → list_all (falsified_by a) clause ≡ true
all_false a [] h z = refl
all_false a (x ∷ xs) h z =
    and_from _ _ (and_from _ _ (and_parts (is_nonzero x) _ z).0 (not_from_false _ (or_parts (literal_holds a x) _ h).0))
    (all_false a xs (or_parts (literal_holds a x) _ h).1 (and_parts (is_nonzero x) _ z).1)

pub clause_holds-none : (a : Assignment) (clauses : List (List ℤ)) (clause : List ℤ) → Satisfies a clauses → have_no_zero clauses ≡ true
    → has_no_zero clause ≡ true
    → has_quiet clauses clause ≡ false → clause_holds a clause ≡ true
clause_holds-none a clauses clause h z own none =
    elim (clause_holds a clause) as (λ b. clause_holds a clause ≡ b → b ≡ true) [
      | true ↦ λ e. refl
      | false ↦ λ e. absurd (no_quiet clauses clause none (falsified_by a) (IsQuiet-falsified_by a clauses h z) (all_false a clause e own))
    ] refl
