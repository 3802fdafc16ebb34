-- Clauses with the same set of literals: propagation finds the same on both.
use Rattle.std.proofs.Common.{◌≡◌, Bool, true, false, not, ◌&&◌, ℤ, neg_ℤ, List, [], ◌∷◌, ◌++◌, int_eq, refl, sym, ap, ◌∙◌, inl, inr}
use Rattle.std.proofs.Common.{◌||◌, if◌then◌else◌}
use Rattle.std.specs.List.{filter, list_all}
use Rattle.std.proofs.lemmas.Bool.{and_parts, and_from, or_cases, or_right, false_from_ne_true, both_ways}
use Rattle.std.proofs.lemmas.List.Folds.{list_any-append}
use Rattle.lrat_rules.specs.declared.outcome.Effect.TheVariants.{Unit as Forced, NotUnit}
use Rattle.lrat_rules.specs.Chain.{FalseSet, literals_of, outside, effect_of_outside}
use Rattle.lrat_rules.specs.Addition.{holds_negated}
use Rattle.drat_rules.specs.Clauses.{same_list, same_set}
use Rattle.drat_rules.specs.Quiet.{adds_nothing, closed_under}
use Rattle.drat_rules.specs.Addition.{others_of}
use Rattle.drat_rules.proofs.Members.{int_eq-true, eq-int_eq, in_front, at_member, all_members, literals_of-filter}
use Rattle.drat_rules.proofs.Counts.{same_list-true}

-- two tests that pass together are one
pub same_test : (a b : Bool) → (a ≡ true → b ≡ true) → (b ≡ true → a ≡ true) → a ≡ b
same_test true b to from = sym (to refl)
same_test false true to from = from refl
same_test false false to from = refl

-- the same set: each literal of one is in the other
pub from_sets : (c d : List ℤ) → same_set c d ≡ true → (x : ℤ) → literals_of c x ≡ literals_of d x
from_sets c d h x =
    let parts = and_parts (list_all (literals_of d) c) _ h in
    same_test _ _ (at_member (literals_of d) c parts.0 x) (at_member (literals_of c) d parts.1 x)

pub into_sets : (c d : List ℤ) → ((x : ℤ) → literals_of c x ≡ literals_of d x) → same_set c d ≡ true
into_sets c d same =
    and_from _ _ (all_members (literals_of d) c (λ x m. sym (same x) ∙ m)) (all_members (literals_of c) d (λ x m. same x ∙ m))

pub same_set-refl : (c : List ℤ) → same_set c c ≡ true
same_set-refl c = into_sets c c (λ x. refl)

pub same_set-sym : (c d : List ℤ) → same_set c d ≡ true → same_set d c ≡ true
same_set-sym c d h = into_sets d c (λ x. sym (from_sets c d h x))

-- a clause has the same set as either of two that have the same
pub same_set-tests : (c d : List ℤ) → same_set c d ≡ true → (e : List ℤ) → same_set e c ≡ same_set e d
same_set-tests c d h e =
    same_test _ _ (λ m. into_sets e d (λ x. from_sets e c m x ∙ from_sets c d h x))
    (λ m. into_sets e c (λ x. from_sets e d m x ∙ sym (from_sets c d h x)))

-- so has the same list
pub same_list-set : (c d : List ℤ) → same_list c d ≡ true → same_set c d ≡ true
same_list-set c d h = ap (same_set c) (sym (same_list-true c d h)) ∙ same_set-refl c

-- two clauses together, and what a test leaves
pub same_set-append : (c d a b : List ℤ) → same_set c d ≡ true → same_set a b ≡ true → same_set (c ++ a) (d ++ b) ≡ true
same_set-append c d a b h g =
    into_sets (c ++ a) (d ++ b) (λ x.
    list_any-append (int_eq x) c a
    ∙ (λ i. from_sets c d h x i || from_sets a b g x i)
    ∙ sym (list_any-append (int_eq x) d b))

pub same_set-filter : (p : ℤ → Bool) (c d : List ℤ) → same_set c d ≡ true → same_set (filter p c) (filter p d) ≡ true
same_set-filter p c d h =
    into_sets (filter p c) (filter p d)
    (λ x. literals_of-filter p c x ∙ ap (λ b. p x && b) (from_sets c d h x) ∙ sym (literals_of-filter p d x))

pub holds_negated-sets : (pivot : ℤ) (c d : List ℤ) → same_set c d ≡ true → holds_negated pivot c ≡ holds_negated pivot d
holds_negated-sets pivot c d h = from_sets c d h (neg_ℤ pivot)

pub all-sets : (n : FalseSet) (c d : List ℤ) → same_set c d ≡ true → list_all n c ≡ true → list_all n d ≡ true
all-sets n c d h all = all_members n d (λ x m. at_member n c all x (from_sets c d h x ∙ m))

-- where one of them has a single literal, the other one has it alone
single : (x y : ℤ) (xs ys : List ℤ) → same_set (x ∷ xs) (y ∷ ys) ≡ true → list_all (int_eq x) xs ≡ true
    → (x ≡ y) × (list_all (int_eq y) ys ≡ true)
single x y xs ys h all = (
  sym (only y (in_front y ys)),
  all_members (int_eq y) ys (λ z m.
      eq-int_eq y z (only y (in_front y ys) ∙ sym (only z (or_right (int_eq z y) _ m)))),
)
  where
    only : (z : ℤ) → literals_of (y ∷ ys) z ≡ true → z ≡ x
    only z m = elim (or_cases (int_eq z x) _ (from_sets (x ∷ xs) (y ∷ ys) h z ∙ m)) [
      | inl here ↦ int_eq-true z x here
      | inr later ↦ sym (int_eq-true x z (at_member (int_eq x) xs all z later))
    ]

effect-sets : (xs ys : List ℤ) → same_set xs ys ≡ true → effect_of_outside xs ≡ effect_of_outside ys
effect-sets [] [] h = refl
effect-sets [] (y ∷ ys) h = cc
effect-sets (x ∷ xs) [] h = cc
effect-sets (x ∷ xs) (y ∷ ys) h =
    elim (list_all (int_eq x) xs)
    as (λ b. list_all (int_eq x) xs ≡ b → (if b then Forced x else NotUnit) ≡ effect_of_outside (y ∷ ys)) [
      | true ↦ λ all.
          let one = single x y xs ys h all in
          ap Forced one.0 ∙ ap (λ b. if b then Forced y else NotUnit) (sym one.1)
      | false ↦ λ some.
          let other : list_all (int_eq y) ys ≡ false = false_from_ne_true _ (λ all.
          both_ways (list_all (int_eq x) xs) some (single y x ys xs (same_set-sym (x ∷ xs) (y ∷ ys) h) all).1) in
          ap (λ b. if b then Forced y else NotUnit) (sym other)
    ] refl

pub closed_under-sets : (n : FalseSet) (c d : List ℤ) → same_set c d ≡ true → closed_under n c ≡ closed_under n d
closed_under-sets n c d h =
    ap (adds_nothing n) (effect-sets (outside n c) (outside n d) (same_set-filter (λ x. not (n x)) c d h))

pub others_of-sets : (pivot : ℤ) (c d : List ℤ) → same_set c d ≡ true → same_set (others_of pivot c) (others_of pivot d) ≡ true
others_of-sets pivot c d h = same_set-filter (λ x. not (int_eq x (neg_ℤ pivot))) c d h
