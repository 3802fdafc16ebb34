-- What tests of numbers and lists tell.
use Rattle.std.proofs.Common.{◌≡◌, ℕ, Bool, true, false, not, ◌||◌, List, [], ◌∷◌, ℤ, int_eq, nat_cmp, refl, sym, ◌∙◌, subst, eqb-true, inl}
use Rattle.std.proofs.Common.{inr}
use Rattle.std.specs.List.{list_any, list_all}
use Rattle.std.specs.Ordering.{eq_by_cmp}
use Rattle.std.specs.Cmp.{unsigned_tied}
use Rattle.std.proofs.lemmas.Bool.{and_parts, and_from, or_cases}
use Rattle.std.proofs.lemmas.Bool.Decides.{Decides-int_eq}
use Rattle.std.proofs.lemmas.Cmp.{int_eq_equiv}

-- the test of two whole numbers, both ways
pub int_eq-true : (x y : ℤ) → int_eq x y ≡ true → x ≡ y
int_eq-true x y h = (Decides-int_eq x y).0 h

pub eq-int_eq : (x y : ℤ) → x ≡ y → int_eq x y ≡ true
eq-int_eq x y e = (Decides-int_eq x y).1 e

pub int_eq_symmetric : (x y : ℤ) → int_eq x y ≡ int_eq y x
int_eq_symmetric = int_eq_equiv.symm

-- what is left of a disjunction whose first part fails, and of one whose second part is weakened
pub or_rest : (b c : Bool) → b ≡ false → (b || c) ≡ true → c ≡ true
or_rest true c e h = cc
or_rest false c e h = h

pub or_weaken : (b c d : Bool) → (c ≡ true → d ≡ true) → (b || c) ≡ true → (b || d) ≡ true
or_weaken true c d weaken h = refl
or_weaken false c d weaken h = weaken h

pub not_not : (b : Bool) → b ≡ not (not b)
not_not true = refl
not_not false = refl

-- a number that is in a list passes what each of the list passes
pub list_all_key : (p : ℕ → Bool) (ids : List ℕ) (id : ℕ) → list_all p ids ≡ true → list_any (eq_by_cmp nat_cmp id) ids ≡ true → p id ≡ true
list_all_key p [] id all any = cc
list_all_key p (x ∷ xs) id all any =
    elim (or_cases (eq_by_cmp nat_cmp id x) _ any) [
      | inl here ↦ subst (λ k. p k ≡ true) (sym (eqb-true id x (sym (unsigned_tied id x) ∙ here))) (and_parts (p x) _ all).0
      | inr later ↦ list_all_key p xs id (and_parts (p x) _ all).1 later
    ]

pub list_all_each : {X : Type 0} (p : X → Bool) (xs : List X) → ((x : X) → p x ≡ true) → list_all p xs ≡ true
list_all_each p [] each = refl
list_all_each p (x ∷ xs) each = rw (each x) (list_all_each p xs each)

pub list_all_weaken : {X : Type 0} (p q : X → Bool) (xs : List X) → ((x : X) → p x ≡ true → q x ≡ true) → list_all p xs ≡ true
    → list_all q xs ≡ true
list_all_weaken p q [] weaken h = refl
list_all_weaken p q (x ∷ xs) weaken h = and_from _ _ (weaken x (and_parts (p x) _ h).0)
    (list_all_weaken p q xs weaken (and_parts (p x) _ h).1)
