-- Which literals are in a list, and what tests of all of them tell.
use Rattle.std.proofs.Common.{◌≡◌, Bool, true, false, cond, ◌||◌, ◌&&◌, ℤ, neg_ℤ, List, [], ◌∷◌, ◌++◌, int_eq, refl, sym, ap, ◌∙◌, subst}
use Rattle.std.proofs.Common.{inl, inr}
use Rattle.std.specs.List.{filter, list_all}
use Rattle.std.proofs.lemmas.Bool.{and_parts, and_from, or_cases, or_left, or_right}
use Rattle.std.proofs.lemmas.Bool.Decides.{Decides-int_eq}
use Rattle.std.proofs.lemmas.List.Folds.{list_any-append}
use Rattle.lrat_rules.specs.Chain.{literals_of}
use Rattle.drat_rules.specs.Quiet.{with_first, distinct, with_negations}

-- the test of two literals, both ways
pub int_eq-true : (x y : ℤ) → int_eq x y ≡ true → x ≡ y
int_eq-true x y h = (Decides-int_eq x y).0 h

pub eq-int_eq : (x y : ℤ) → x ≡ y → int_eq x y ≡ true
eq-int_eq x y e = (Decides-int_eq x y).1 e

pub in_front : (x : ℤ) (xs : List ℤ) → literals_of (x ∷ xs) x ≡ true
in_front x xs = or_left _ _ (eq-int_eq x x refl)

-- what all literals of a list pass, each passes; and the other way
pub at_member : (p : ℤ → Bool) (xs : List ℤ) → list_all p xs ≡ true → (x : ℤ) → literals_of xs x ≡ true → p x ≡ true
at_member p [] all x m = cc
at_member p (y ∷ ys) all x m =
    elim (or_cases (int_eq x y) _ m) [
      | inl here ↦ subst (λ z. p z ≡ true) (sym (int_eq-true x y here)) (and_parts (p y) _ all).0
      | inr later ↦ at_member p ys (and_parts (p y) _ all).1 x later
    ]

pub all_members : (p : ℤ → Bool) (xs : List ℤ) → ((x : ℤ) → literals_of xs x ≡ true → p x ≡ true) → list_all p xs ≡ true
all_members p [] each = refl
all_members p (y ∷ ys) each =
    and_from _ _ (each y (in_front y ys)) (all_members p ys (λ x m. each x (or_right (int_eq x y) _ m)))

-- what is left of a list by a test
filter_keeps : (p : ℤ → Bool) (x y : ℤ) (rest : Bool) (at_y : Bool) → p y ≡ at_y
    → (cond at_y (int_eq x y || (p x && rest)) (p x && rest)) ≡ (p x && (int_eq x y || rest))
filter_keeps p x y rest true e =
    elim (int_eq x y) as (λ b. int_eq x y ≡ b → (b || (p x && rest)) ≡ (p x && (b || rest))) [
      | true ↦ λ same. sym (and_from _ _ (ap p (int_eq-true x y same) ∙ e) refl)
      | false ↦ λ other. refl
    ] refl
filter_keeps p x y rest false e =
    elim (int_eq x y) as (λ b. int_eq x y ≡ b → (p x && rest) ≡ (p x && (b || rest))) [
      | true ↦ λ same. let fails : p x ≡ false = ap p (int_eq-true x y same) ∙ e in rw fails refl
      | false ↦ λ other. refl
    ] refl

pub literals_of-filter : (p : ℤ → Bool) (xs : List ℤ) (x : ℤ) → literals_of (filter p xs) x ≡ (p x && literals_of xs x)
literals_of-filter p [] x = elim (p x) as (λ b. false ≡ (b && false)) [ true ↦ refl | false ↦ refl ]
literals_of-filter p (y ∷ ys) x =
    elim (p y) as (λ b. p y ≡ b → literals_of (cond b (y ∷ filter p ys) (filter p ys)) x ≡ (p x && (int_eq x y || literals_of ys x))) [
      | true ↦ λ e. ap (λ r. int_eq x y || r) (literals_of-filter p ys x) ∙ filter_keeps p x y (literals_of ys x) true e
      | false ↦ λ e. literals_of-filter p ys x ∙ filter_keeps p x y (literals_of ys x) false e
    ] refl

pub in_left : (xs ys : List ℤ) (x : ℤ) → literals_of xs x ≡ true → literals_of (xs ++ ys) x ≡ true
in_left xs ys x m = list_any-append (int_eq x) xs ys ∙ or_left _ _ m

pub in_right : (xs ys : List ℤ) (x : ℤ) → literals_of ys x ≡ true → literals_of (xs ++ ys) x ≡ true
in_right xs ys x m = list_any-append (int_eq x) xs ys ∙ or_right (literals_of xs x) _ m

-- taking each literal once leaves the same ones
stays_in : (y : ℤ) (xs : List ℤ) (x : ℤ) → literals_of (y ∷ xs) x ≡ true → literals_of (with_first y xs) x ≡ true
stays_in y xs x m =
    elim (literals_of xs y) as (λ b. literals_of xs y ≡ b → literals_of (cond b xs (y ∷ xs)) x ≡ true) [
      | true ↦ λ there. elim (or_cases (int_eq x y) _ m) [
        | inl here ↦ ap (literals_of xs) (int_eq-true x y here) ∙ there
        | inr later ↦ later
      ]
      | false ↦ λ new. m
    ] refl

pub in_distinct : (xs : List ℤ) (x : ℤ) → literals_of xs x ≡ true → literals_of (distinct xs) x ≡ true
in_distinct [] x m = m
in_distinct (y ∷ ys) x m =
    stays_in y (distinct ys) x (elim (or_cases (int_eq x y) _ m) [
      | inl here ↦ or_left _ _ here
      | inr later ↦ or_right (int_eq x y) _ (in_distinct ys x later)
    ])

-- a literal, and its negation
pub in_negations : (xs : List ℤ) (x : ℤ) → literals_of xs x ≡ true
    → (literals_of (with_negations xs) x ≡ true) × (literals_of (with_negations xs) (neg_ℤ x) ≡ true)
in_negations [] x m = cc
in_negations (y ∷ ys) x m =
    elim (or_cases (int_eq x y) _ m) [
      | inl here ↦ (
        or_left _ _ here,
        or_right (int_eq (neg_ℤ x) y) _ (or_left _ _ (eq-int_eq (neg_ℤ x) (neg_ℤ y) (ap neg_ℤ (int_eq-true x y here)))),
      )
      | inr later ↦
          let rest : (literals_of (with_negations ys) x ≡ true) × (literals_of (with_negations ys) (neg_ℤ x) ≡ true) =
          in_negations ys x later in
          (in_right (y ∷ neg_ℤ y ∷ []) (with_negations ys) x rest.0, in_right (y ∷ neg_ℤ y ∷ []) (with_negations ys) (neg_ℤ x) rest.1)
    ]
