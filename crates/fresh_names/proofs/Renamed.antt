-- Clauses with other literals for theirs: a quiet set of the new ones gives one of the old ones; so a good addition stays good where no two
-- literals at hand become one.
use Rattle.std.proofs.Common.{◌≡◌, Bool, true, false, cond, not, ◌||◌, ℤ, neg_ℤ, List, [], ◌∷◌, ◌++◌, None, Some, Option}
use Rattle.std.proofs.Common.{if◌then◌else◌}
use Rattle.std.proofs.Common.{int_eq, map, refl, sym, ap, ◌∙◌}
use Rattle.std.specs.List.{list_all}
use Rattle.std.proofs.lemmas.Bool.{and_parts, and_from}
use Rattle.std.proofs.lemmas.Bool.Decides.{Decides-int_eq}
use Rattle.std.proofs.lemmas.List.{map-append}
use Rattle.std.proofs.lemmas.List.Folds.{list_all-map}
use Rattle.lrat_rules.specs.declared.outcome.Effect.TheVariants.{Unit as Forced, NotUnit}
use Rattle.lrat_rules.specs.declared.outcome.Reason.{Reason}
use Rattle.lrat_rules.specs.declared.outcome.Reason.TheVariants.{CandidateOpen}
use Rattle.lrat_rules.specs.Chain.{FalseSet, outside, effect_of_outside}
use Rattle.lrat_rules.specs.Addition.{holds_negated}
use Rattle.drat_rules.specs.Quiet.{adds_nothing, closed_under, IsQuiet, Falsifies, has_quiet}
use Rattle.drat_rules.specs.Addition.{others_of, passes_candidate, open_fault, drat_fault}

int_true : (x y : ℤ) → int_eq x y ≡ true → x ≡ y
int_true x y h = (Decides-int_eq x y).0 h

true_int : (x y : ℤ) → x ≡ y → int_eq x y ≡ true
true_int x y e = (Decides-int_eq x y).1 e

not-true : (b : Bool) → not b ≡ true → b ≡ false
not-true true h = sym h
not-true false h = refl

-- the laws of quiet sets
pub record QuietLaws : Type 0 where
  pub none : (clauses : List (List ℤ)) (clause : List ℤ) → has_quiet clauses clause ≡ false
      → (n : FalseSet) → IsQuiet clauses n → Falsifies n clause → ⊥
  pub fails : (clauses : List (List ℤ)) (clause : List ℤ) → ((n : FalseSet) → IsQuiet clauses n → Falsifies n clause → ⊥)
      → has_quiet clauses clause ≡ false

module _ (to : ℤ → ℤ) (negates : (x : ℤ) → to (neg_ℤ x) ≡ neg_ℤ (to x)) where
  abbrev pub renamed : List ℤ → List ℤ
  renamed clause = map to clause

  abbrev pub all_renamed : List (List ℤ) → List (List ℤ)
  all_renamed clauses = map renamed clauses

  outside-renamed : (n : FalseSet) (clause : List ℤ) → outside n (renamed clause) ≡ renamed (outside (λ x. n (to x)) clause)
  outside-renamed n [] = refl
  outside-renamed n (x ∷ xs) =
      elim (n (to x)) as (λ b. cond (not b) (to x ∷ outside n (renamed xs)) (outside n (renamed xs))
      ≡ renamed (cond (not b) (x ∷ outside (λ y. n (to y)) xs) (outside (λ y. n (to y)) xs))) [
        | true ↦ outside-renamed n xs
        | false ↦ ap (λ l. to x ∷ l) (outside-renamed n xs)
      ]

  same-renamed : (x : ℤ) (xs : List ℤ) → list_all (int_eq x) xs ≡ true → list_all (int_eq (to x)) (renamed xs) ≡ true
  same-renamed x [] all = refl
  same-renamed x (y ∷ ys) all =
      let parts = and_parts (int_eq x y) (list_all (int_eq x) ys) all in
      and_from _ _ (true_int (to x) (to y) (ap to (int_true x y parts.0))) (same-renamed x ys parts.1)

  nothing-renamed : (n : FalseSet) (xs : List ℤ) → adds_nothing n (effect_of_outside (renamed xs)) ≡ true
      → adds_nothing (λ x. n (to x)) (effect_of_outside xs) ≡ true
  nothing-renamed n [] h = h
  nothing-renamed n (x ∷ xs) h =
      elim (list_all (int_eq x) xs)
      as (λ b. list_all (int_eq x) xs ≡ b → adds_nothing (λ y. n (to y)) (if b then Forced x else NotUnit) ≡ true) [
        | true ↦ λ all.
            ap n (negates x)
            ∙ ap (λ b. adds_nothing n (if b then Forced (to x) else NotUnit)) (sym (same-renamed x xs all)) ∙ h
        | false ↦ λ _. refl
      ] refl

  closed-renamed : (n : FalseSet) (clause : List ℤ) → closed_under n (renamed clause) ≡ true → closed_under (λ x. n (to x)) clause ≡ true
  closed-renamed n clause h =
      nothing-renamed n (outside (λ x. n (to x)) clause)
      (ap (λ l. adds_nothing n (effect_of_outside l)) (sym (outside-renamed n clause)) ∙ h)

  all-closed : (n : FalseSet) (clauses : List (List ℤ)) → list_all (closed_under n) (all_renamed clauses) ≡ true
      → list_all (closed_under (λ x. n (to x))) clauses ≡ true
  all-closed n [] h = refl
  all-closed n (c ∷ cs) h =
      let parts = and_parts (closed_under n (renamed c)) _ h in
      and_from _ _ (closed-renamed n c parts.0) (all-closed n cs parts.1)

  quiet-renamed : (n : FalseSet) (clauses : List (List ℤ)) → IsQuiet (all_renamed clauses) n → IsQuiet clauses (λ x. n (to x))
  quiet-renamed n clauses q = record {
    apart = λ x h. ap n (negates x) ∙ q.apart (to x) h;
    closed = all-closed n clauses q.closed;
  }

  module _ (laws : QuietLaws) where
    pub none-renamed : (clauses : List (List ℤ)) (clause : List ℤ) → has_quiet clauses clause ≡ false
        → has_quiet (all_renamed clauses) (renamed clause) ≡ false
    none-renamed clauses clause none =
        laws.fails (all_renamed clauses) (renamed clause) (λ n q f. laws.none clauses clause none (λ x. n (to x))
        (quiet-renamed n clauses q) (sym (list_all-map n to clause) ∙ f))

    -- no literals that pass become one
    module _ (known : ℤ → Bool) (negated : (x : ℤ) → known x ≡ true → known (neg_ℤ x) ≡ true)
        (apart : (x y : ℤ) → known x ≡ true → known y ≡ true → to x ≡ to y → x ≡ y) where
      pub test-renamed : (x y : ℤ) → known x ≡ true → known y ≡ true → int_eq (to x) (to y) ≡ int_eq x y
      test-renamed x y kx ky =
          elim (int_eq x y) as (λ b. int_eq x y ≡ b → int_eq (to x) (to y) ≡ b) [
            | true ↦ λ e. true_int (to x) (to y) (ap to (int_true x y e))
            | false ↦ λ e.
                elim (int_eq (to x) (to y)) as (λ b. int_eq (to x) (to y) ≡ b → b ≡ false) [
                  | true ↦ λ f. sym (true_int x y (apart x y kx ky (int_true (to x) (to y) f))) ∙ e
                  | false ↦ λ _. refl
                ] refl
          ] refl

      negated-renamed : (pivot : ℤ) (clause : List ℤ) → known pivot ≡ true → list_all known clause ≡ true
          → holds_negated (to pivot) (renamed clause) ≡ holds_negated pivot clause
      negated-renamed pivot [] kp all = refl
      negated-renamed pivot (x ∷ xs) kp all =
          let parts = and_parts (known x) (list_all known xs) all in
          let first : int_eq (neg_ℤ (to pivot)) (to x) ≡ int_eq (neg_ℤ pivot) x =
          ap (λ z. int_eq z (to x)) (sym (negates pivot)) ∙ test-renamed (neg_ℤ pivot) x (negated pivot kp) parts.0 in
          rw (first, negated-renamed pivot xs kp parts.1) refl

      others-renamed : (pivot : ℤ) (clause : List ℤ) → known pivot ≡ true → list_all known clause ≡ true
          → others_of (to pivot) (renamed clause) ≡ renamed (others_of pivot clause)
      others-renamed pivot [] kp all = refl
      others-renamed pivot (x ∷ xs) kp all =
          let parts = and_parts (known x) (list_all known xs) all in
          let first : int_eq (to x) (neg_ℤ (to pivot)) ≡ int_eq x (neg_ℤ pivot) =
          ap (λ z. int_eq (to x) z) (sym (negates pivot)) ∙ test-renamed x (neg_ℤ pivot) parts.0 (negated pivot kp) in
          ap (λ b. cond (not b) (to x ∷ others_of (to pivot) (renamed xs)) (others_of (to pivot) (renamed xs))) first
          ∙ elim (int_eq x (neg_ℤ pivot)) as (λ b. cond (not b) (to x ∷ others_of (to pivot) (renamed xs)) (others_of (to pivot) (renamed
          xs))
          ≡ renamed (cond (not b) (x ∷ others_of pivot xs) (others_of pivot xs))) [
            | true ↦ others-renamed pivot xs kp parts.1
            | false ↦ ap (λ l. to x ∷ l) (others-renamed pivot xs kp parts.1)
          ]

      passes-renamed : (clauses : List (List ℤ)) (pivot : ℤ) (clause other : List ℤ) → known pivot ≡ true → list_all known other ≡ true
          → passes_candidate clauses pivot clause other ≡ true
          → passes_candidate (all_renamed clauses) (to pivot) (renamed clause) (renamed other) ≡ true
      passes-renamed clauses pivot clause other kp all h =
          let negated-same : holds_negated (to pivot) (renamed other) ≡ holds_negated pivot other = negated-renamed pivot other kp all in
          let together : renamed clause ++ others_of (to pivot) (renamed other) ≡ renamed (clause ++ others_of pivot other) =
          ap (λ l. renamed clause ++ l) (others-renamed pivot other kp all) ∙ sym (map-append to clause (others_of pivot other)) in
          ap (λ b. not b || not (has_quiet (all_renamed clauses) (renamed clause ++ others_of (to pivot) (renamed other)))) negated-same
          ∙ ap (λ l. not (holds_negated pivot other) || not (has_quiet (all_renamed clauses) l)) together
          ∙ open-one clauses (holds_negated pivot other) (clause ++ others_of pivot other) h
        where
          open-one : (clauses : List (List ℤ)) (b : Bool) (c : List ℤ) → (not b || not (has_quiet clauses c)) ≡ true
              → (not b || not (has_quiet (all_renamed clauses) (renamed c))) ≡ true
          open-one clauses false c h = refl
          open-one clauses true c h = ap not (none-renamed clauses c (not-true (has_quiet clauses c) h))

      all-pass : (clauses : List (List ℤ)) (pivot : ℤ) (clause : List ℤ) (some : List (List ℤ)) → known pivot ≡ true
          → list_all (list_all known) some ≡ true → list_all (passes_candidate clauses pivot clause) some ≡ true
          → list_all (passes_candidate (all_renamed clauses) (to pivot) (renamed clause)) (all_renamed some) ≡ true
      all-pass clauses pivot clause [] kp all h = refl
      all-pass clauses pivot clause (c ∷ cs) kp all h =
          let knowns = and_parts (list_all known c) _ all in
          let parts = and_parts (passes_candidate clauses pivot clause c) _ h in
          and_from _ _ (passes-renamed clauses pivot clause c kp knowns.0 parts.0) (all-pass clauses pivot clause cs kp knowns.1 parts.1)

      open-renamed : (clauses : List (List ℤ)) (clause : List ℤ) → list_all known clause ≡ true → list_all (list_all known) clauses ≡ true
          → open_fault clauses clause ≡ None → open_fault (all_renamed clauses) (renamed clause) ≡ None
      open-renamed clauses [] own all h = cc
      open-renamed clauses (pivot ∷ others) own all h =
          let kp : known pivot ≡ true = (and_parts (known pivot) _ own).0 in
          elim (list_all (passes_candidate clauses pivot (pivot ∷ others)) clauses)
          as (λ b. list_all (passes_candidate clauses pivot (pivot ∷ others)) clauses ≡ b
          → (if b then None else Some CandidateOpen) ≡ None
          → open_fault (all_renamed clauses) (renamed (pivot ∷ others)) ≡ None) [
            | true ↦ λ pass _.
                ap (λ b. if b then None else Some CandidateOpen) (all-pass clauses pivot (pivot ∷ others) clauses kp all pass)
            | false ↦ λ _ stays. cc
          ] refl h

      if_none : (b : Bool) (f : Option Reason) → f ≡ None → (if b then f else None) ≡ None
      if_none true f e = e
      if_none false f e = refl

      -- a good addition stays good
      pub fault-renamed : (clauses : List (List ℤ)) (clause : List ℤ) → list_all known clause ≡ true
          → list_all (list_all known) clauses ≡ true → drat_fault clauses clause ≡ None
          → drat_fault (all_renamed clauses) (renamed clause) ≡ None
      fault-renamed clauses clause own all h =
          elim (has_quiet clauses clause)
          as (λ b. has_quiet clauses clause ≡ b → (if b then open_fault clauses clause else None) ≡ None
          → drat_fault (all_renamed clauses) (renamed clause) ≡ None) [
            | true ↦ λ _ stays. if_none (has_quiet (all_renamed clauses) (renamed clause)) _ (open-renamed clauses clause own all stays)
            | false ↦ λ none _.
                ap (λ b. if b then open_fault (all_renamed clauses) (renamed clause) else None) (none-renamed clauses clause none)
          ] refl h
