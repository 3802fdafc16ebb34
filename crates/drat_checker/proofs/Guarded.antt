-- What watched literals tell where propagation ends: a clause that is true, or watches two literals that aren't false, forces nothing new.
use Rattle.std.proofs.Common.{◌≡◌, Bool, true, false, cond, not, ◌||◌, ℤ, neg_ℤ, List, [], ◌∷◌, if◌then◌else◌, int_eq}
use Rattle.std.proofs.Common.{inl, inr, refl, sym, ap, ◌∙◌, subst}
use Rattle.std.specs.List.{list_all}
use Rattle.std.proofs.Math.IntN.{neg_ℤ-neg_ℤ}
use Rattle.std.proofs.lemmas.Bool.{and_parts, and_from, or_cases, or_left, or_right, both_ways}
use Rattle.lrat_rules.specs.declared.outcome.Effect.TheVariants.{Conflict, Unit as Forced, NotUnit}
use Rattle.lrat_rules.specs.Chain.{FalseSet, literals_of, outside, effect_of_outside, effect}
use Rattle.drat_rules.specs.Quiet.{adds_nothing, closed_under}
use Rattle.drat_checker.specs.Trail.{IsApart}
use Rattle.drat_checker.specs.Watches.{is_true}
use Rattle.drat_checker.specs.Database.{is_short}
use Rattle.drat_checker.proofs.FalseSets.{all_members, at_member, int_eq-true, eq-int_eq}
use Rattle.drat_checker.proofs.Derived.{not_unit-before}

-- a literal that isn't false stays outside
in-outside : (n : FalseSet) (clause : List ℤ) (x : ℤ) → literals_of clause x ≡ true → n x ≡ false → literals_of (outside n clause) x ≡ true
in-outside n [] x m f = cc
in-outside n (y ∷ ys) x m f =
    elim (or_cases (int_eq x y) _ m) [
      | inl here ↦
          let own : n y ≡ false = ap n (sym (int_eq-true x y here)) ∙ f in
          ap (λ b. literals_of (cond (not b) (y ∷ outside n ys) (outside n ys)) x) own ∙ or_left _ _ here
      | inr later ↦ elim (n y) as (λ b. literals_of (cond (not b) (y ∷ outside n ys) (outside n ys)) x ≡ true) [
        | true ↦ in-outside n ys x later f
        | false ↦ or_right (int_eq x y) _ (in-outside n ys x later f)
      ]
    ]

-- all copies of one literal, and another among them
all-one : (x y : ℤ) (xs : List ℤ) → list_all (int_eq x) xs ≡ true → literals_of xs y ≡ true → x ≡ y
all-one x y [] all m = cc
all-one x y (z ∷ zs) all m =
    let parts = and_parts (int_eq x z) (list_all (int_eq x) zs) all in
    elim (or_cases (int_eq y z) _ m) [
      | inl here ↦ int_eq-true x z parts.0 ∙ sym (int_eq-true y z here)
      | inr later ↦ all-one x y zs parts.1 later
    ]

-- what is outside has a literal whose negation is false, or two different ones
closed-by : (n : FalseSet) (y : ℤ) (xs : List ℤ) → literals_of xs y ≡ true → n (neg_ℤ y) ≡ true
    → adds_nothing n (effect_of_outside xs) ≡ true
closed-by n y [] m negated = cc
closed-by n y (x ∷ xs) m negated =
    elim (list_all (int_eq x) xs)
    as (λ b. list_all (int_eq x) xs ≡ b → adds_nothing n (if b then Forced x else NotUnit) ≡ true) [
      | true ↦ λ same.
          let is : x ≡ y = all-one x y (x ∷ xs) (and_from _ _ (eq-int_eq x x refl) same) m in
          ap (λ z. n (neg_ℤ z)) is ∙ negated
      | false ↦ λ other. refl
    ] refl

two-outside : (a b : ℤ) (xs : List ℤ) → literals_of xs a ≡ true → literals_of xs b ≡ true → int_eq a b ≡ false
    → effect_of_outside xs ≡ NotUnit
two-outside a b [] one two apart = cc
two-outside a b (x ∷ xs) one two apart =
    elim (list_all (int_eq x) xs) as (λ c. list_all (int_eq x) xs ≡ c → (if c then Forced x else NotUnit) ≡ NotUnit) [
      | true ↦ λ same.
          let all : list_all (int_eq x) (x ∷ xs) ≡ true = and_from _ _ (eq-int_eq x x refl) same in
          absurd (both_ways (int_eq a b) apart (eq-int_eq a b (sym (all-one x a (x ∷ xs) all one) ∙ all-one x b (x ∷ xs) all two)))
      | false ↦ λ other. refl
    ] refl

pub some-true : (literals clause : List ℤ) → is_true literals clause ≡ true
    → (y : ℤ) × (literals_of clause y ≡ true) × (literals_of literals (neg_ℤ y) ≡ true)
some-true literals [] h = cc
some-true literals (x ∷ xs) h =
    elim (or_cases (literals_of literals (neg_ℤ x)) _ h) [
      | inl here ↦ (x, or_left _ _ (eq-int_eq x x refl), here)
      | inr later ↦
          let rest = some-true literals xs later in
          (rest.0, or_right (int_eq rest.0 x) _ rest.1, rest.2)
    ]

pub true-closed : (literals clause : List ℤ) → IsApart literals → is_true literals clause ≡ true
    → closed_under (literals_of literals) clause ≡ true
true-closed literals clause apart h =
    let some = some-true literals clause h in
    let unfalse : literals_of literals some.0 ≡ false =
    ap (literals_of literals) (sym (neg_ℤ-neg_ℤ some.0)) ∙ apart.apart (neg_ℤ some.0) some.2 in
    closed-by (literals_of literals) some.0 (outside (literals_of literals) clause)
    (in-outside (literals_of literals) clause some.0 some.1 unfalse) some.2

pub two-closed : (literals clause : List ℤ) (a b : ℤ) → literals_of clause a ≡ true → literals_of clause b ≡ true → int_eq a b ≡ false
    → literals_of literals a ≡ false → literals_of literals b ≡ false → closed_under (literals_of literals) clause ≡ true
two-closed literals clause a b one two apart not_a not_b =
    ap (adds_nothing (literals_of literals))
    (two-outside a b (outside (literals_of literals) clause) (in-outside (literals_of literals) clause a one not_a)
    (in-outside (literals_of literals) clause b two not_b) apart)

or_last : (b : Bool) → (b || false) ≡ true → b ≡ true
or_last true h = refl
or_last false h = h

-- all but one literal are false: it is forced, or the clause is false
module _ (n : FalseSet) (other : ℤ) where
  all-other : (clause : List ℤ) → list_all (λ y. int_eq y other || n y) clause ≡ true → list_all (int_eq other) (outside n clause) ≡ true
  all-other [] h = refl
  all-other (y ∷ ys) h =
      let parts = and_parts (int_eq y other || n y) (list_all (λ z. int_eq z other || n z) ys) h in
      elim (n y) as (λ b. n y ≡ b → (int_eq y other || b) ≡ true → list_all (int_eq other) (cond (not b) (y ∷ outside n ys)
      (outside n ys)) ≡ true) [
        | true ↦ λ e _. all-other ys parts.1
        | false ↦ λ e one. and_from _ _ (eq-int_eq other y (sym (int_eq-true y other (or_last (int_eq y other) one))))
            (all-other ys parts.1)
      ] refl parts.0

  forced-one : (xs : List ℤ) → list_all (int_eq other) xs ≡ true → literals_of xs other ≡ true → effect_of_outside xs ≡ Forced other
  forced-one [] all m = cc
  forced-one (x ∷ xs) all m =
      let parts = and_parts (int_eq other x) (list_all (int_eq other) xs) all in
      let is : other ≡ x = int_eq-true other x parts.0 in
      ap (λ b. if b then Forced x else NotUnit) (subst (λ (z : ℤ). list_all (int_eq z) xs ≡ true) is parts.1) ∙ ap Forced (sym is)

  pub last-forced : (clause : List ℤ) → list_all (λ y. int_eq y other || n y) clause ≡ true → literals_of clause other ≡ true
      → n other ≡ false → effect n clause ≡ Forced other
  last-forced clause h m f = forced-one (outside n clause) (all-other clause h) (in-outside n clause other m f)

  none-left : (clause : List ℤ) → list_all (λ y. int_eq y other || n y) clause ≡ true → n other ≡ true → outside n clause ≡ []
  none-left [] h f = refl
  none-left (y ∷ ys) h f =
      let parts = and_parts (int_eq y other || n y) (list_all (λ z. int_eq z other || n z) ys) h in
      let own : n y ≡ true =
      elim (or_cases (int_eq y other) _ parts.0) [ inl same ↦ ap n (int_eq-true y other same) ∙ f | inr there ↦ there ] in
      ap (λ b. cond (not b) (y ∷ outside n ys) (outside n ys)) own ∙ none-left ys parts.1 f

  pub all-false : (clause : List ℤ) → list_all (λ y. int_eq y other || n y) clause ≡ true → n other ≡ true → effect n clause ≡ Conflict
  all-false clause h f = ap effect_of_outside (none-left clause h f)

pub all-known : (n : FalseSet) (other : ℤ) (clause : List ℤ) → list_all (λ y. int_eq y other || n y) clause ≡ true → n other ≡ true
    → list_all n clause ≡ true
all-known n other clause h f =
    all_members n clause (λ x m.
    elim (or_cases (int_eq x other) _ (at_member (λ y. int_eq y other || n y) clause x h m)) [
      | inl same ↦ ap n (int_eq-true x other same) ∙ f
      | inr there ↦ there
    ])

-- the literal that a clause forces is one of its own
in-clause : (n : FalseSet) (clause : List ℤ) (x : ℤ) → literals_of (outside n clause) x ≡ true → literals_of clause x ≡ true
in-clause n [] x m = m
in-clause n (y ∷ ys) x m =
    elim (n y) as (λ b. literals_of (cond (not b) (y ∷ outside n ys) (outside n ys)) x ≡ true → literals_of (y ∷ ys) x ≡ true) [
      | true ↦ λ later. or_right (int_eq x y) _ (in-clause n ys x later)
      | false ↦ λ either. elim (or_cases (int_eq x y) _ either) [
        | inl here ↦ or_left _ _ here
        | inr later ↦ or_right (int_eq x y) _ (in-clause n ys x later)
      ]
    ] m

forced-first : (xs : List ℤ) (k : ℤ) → effect_of_outside xs ≡ Forced k → literals_of xs k ≡ true
forced-first [] k e = cc
forced-first (x ∷ xs) k e =
    elim (list_all (int_eq x) xs) as (λ b. (if b then Forced x else NotUnit) ≡ Forced k → literals_of (x ∷ xs) k ≡ true) [
      | true ↦ λ is. let same : x ≡ k = cc in or_left _ _ (eq-int_eq k x (sym same))
      | false ↦ λ is. cc
    ] e

pub forced-held : (n : FalseSet) (clause : List ℤ) (k : ℤ) → effect n clause ≡ Forced k → literals_of clause k ≡ true
forced-held n clause k e = in-clause n clause k (forced-first (outside n clause) k e)

some-left : (y : ℤ) (ys : List ℤ) → effect_of_outside (y ∷ ys) ≡ Conflict → ⊥
some-left y ys e =
    elim (list_all (int_eq y) ys) as (λ b. (if b then Forced y else NotUnit) ≡ Conflict → ⊥) [
      | true ↦ λ is. cc
      | false ↦ λ is. cc
    ] e

-- and isn't false
unfalse-outside : (n : FalseSet) (clause : List ℤ) (x : ℤ) → literals_of (outside n clause) x ≡ true → n x ≡ false
unfalse-outside n [] x m = cc
unfalse-outside n (y ∷ ys) x m =
    elim (n y) as (λ b. n y ≡ b → literals_of (cond (not b) (y ∷ outside n ys) (outside n ys)) x ≡ true → n x ≡ false) [
      | true ↦ λ e later. unfalse-outside n ys x later
      | false ↦ λ e either. elim (or_cases (int_eq x y) _ either) [
        | inl here ↦ ap n (int_eq-true x y here) ∙ e
        | inr later ↦ unfalse-outside n ys x later
      ]
    ] refl m

pub forced-unfalse : (n : FalseSet) (clause : List ℤ) (k : ℤ) → effect n clause ≡ Forced k → n k ≡ false
forced-unfalse n clause k e = unfalse-outside n clause k (forced-first (outside n clause) k e)

-- a clause that is a conflict is false
pub conflict-false : (n : FalseSet) (clause : List ℤ) → effect n clause ≡ Conflict → list_all n clause ≡ true
conflict-false n [] e = refl
conflict-false n (y ∷ ys) e =
    elim (n y) as (λ b. n y ≡ b → effect_of_outside (cond (not b) (y ∷ outside n ys) (outside n ys)) ≡ Conflict → list_all n (y ∷ ys) ≡
    true) [
      | true ↦ λ own rest. and_from _ _ own (conflict-false n ys rest)
      | false ↦ λ own rest. absurd (some-left y (outside n ys) rest)
    ] refl e

-- a short clause forces its literal, or is false
pub short-not-unit : (n : FalseSet) (clause : List ℤ) → is_short clause ≡ true → effect n clause ≡ NotUnit → ⊥
short-not-unit n clause short e =
    let before : effect (λ _. false) clause ≡ NotUnit =
    not_unit-before (λ _. false) n (record { includes = λ x none. cc }) clause e in
    both_ways (is_short clause) (ap (λ r. not (adds_nothing (λ _. false) r)) before) short
