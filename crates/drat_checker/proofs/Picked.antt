-- Literals that are picked from a clause, in turn.
use Rattle.std.proofs.Common.{◌≡◌, ℕ, ◌+◌, ◌<◌, Bool, true, false, not, cond, ℤ, List, [], ◌∷◌, length, take, get_or, int_eq, if◌then◌else◌}
use Rattle.std.proofs.Common.{refl, sym, ap, ◌∙◌, subst}
use Rattle.std.specs.List.{list_all}
use Rattle.std.proofs.lemmas.Bool.{and_parts, and_from}
use Rattle.std.proofs.lemmas.List.Folds.{list_all_more, list_any_at}
use Rattle.lrat_rules.specs.declared.outcome.Effect.TheVariants.{Conflict, Unit as Forced, NotUnit}
use Rattle.lrat_rules.specs.Chain.{FalseSet, literals_of, outside, effect_of_outside, effect}
use Rattle.drat_rules.specs.Quiet.{adds_nothing}
use Rattle.drat_checker.specs.Database.{is_short}
use Rattle.drat_checker.proofs.FalseSets.{int_eq-true, eq-int_eq}

-- the literal at a place is one of the clause
pub held-at : (clause : List ℤ) (i : ℕ) (x : ℤ) → i < length clause → x ≡ get_or clause i x → literals_of clause x ≡ true
held-at clause i x within at = list_any_at (int_eq x) clause i x within (eq-int_eq x (get_or clause i x) at)

-- one literal more passes
pub one-more : (p : ℤ → Bool) (clause : List ℤ) (i : ℕ) (x : ℤ) → i < length clause → x ≡ get_or clause i x → p x ≡ true
    → list_all p (take i clause) ≡ true → list_all p (take (i + 1) clause) ≡ true
one-more p clause i x within at passes so_far =
    list_all_more p clause i x within ∙ and_from _ _ so_far (ap p (sym at) ∙ passes)

-- all literals false: a conflict
all-out : (n : FalseSet) (clause : List ℤ) → list_all n clause ≡ true → outside n clause ≡ []
all-out n [] h = refl
all-out n (x ∷ xs) h =
    let parts = and_parts (n x) (list_all n xs) h in
    ap (λ b. cond (not b) (x ∷ outside n xs) (outside n xs)) parts.0 ∙ all-out n xs parts.1

pub none-outside : (n : FalseSet) (clause : List ℤ) → list_all n clause ≡ true → effect n clause ≡ Conflict
none-outside n clause h = ap effect_of_outside (all-out n clause h)

-- a clause with copies of one literal alone is short
nothing-false : (clause : List ℤ) → outside (λ _. false) clause ≡ clause
nothing-false [] = refl
nothing-false (x ∷ xs) = ap (λ l. x ∷ l) (nothing-false xs)

pub copies-short : (x : ℤ) (xs : List ℤ) → list_all (int_eq x) xs ≡ true → is_short (x ∷ xs) ≡ true
copies-short x xs same =
    ap (λ l. not (adds_nothing (λ _. false) (effect_of_outside (x ∷ l)))) (nothing-false xs)
    ∙ ap (λ b. not (adds_nothing (λ _. false) (if b then Forced x else NotUnit))) same

pub all-copies-short : (x : ℤ) (clause : List ℤ) → list_all (int_eq x) clause ≡ true → is_short clause ≡ true
all-copies-short x [] same = refl
all-copies-short x (y ∷ ys) same =
    let parts = and_parts (int_eq x y) (list_all (int_eq x) ys) same in
    copies-short y ys (subst (λ (z : ℤ). list_all (int_eq z) ys ≡ true) (int_eq-true x y parts.0) parts.1)
