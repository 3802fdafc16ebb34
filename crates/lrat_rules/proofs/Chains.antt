-- Chains of hints are sound: under an assignment that satisfies the live clauses and makes the given literals
-- false, no chain closes, and the literals that it adds are false too.
use Rattle.std.proofs.Common.{◌≡◌, ℕ, zero, suc, true, false, cond, not, ℤ, pos, negsuc, neg_ℤ, List, [], ◌∷◌, None, Some, if◌then◌else◌}
use Rattle.std.proofs.Common.{int_eq, refl, sym, ap, ◌∙◌, subst, inl, inr}
use Rattle.std.specs.List.{list_all}
use Rattle.std.proofs.lemmas.Bool.{and_parts, or_cases, or_parts, or_from, both_ways}
use Rattle.cnf_base.specs.Truth.{Assignment, literal_holds, clause_holds}
use Rattle.lrat_rules.specs.declared.outcome.Effect.TheVariants.{Unit as Forced, NotUnit}
use Rattle.lrat_rules.specs.State.{Live, clause_at, SatisfiesLive}
use Rattle.lrat_rules.specs.Chain.{FalseSet, literals_of, with_literal, outside, effect_of_outside, Outcome, Open, Closed, Bad}
use Rattle.lrat_rules.specs.Chain.{after_effect, after_hint, chain}
use Rattle.lrat_rules.specs.Soundness.{is_nonzero, has_no_zero, LiveHasNoZero}
use Rattle.lrat_rules.proofs.Tests.{int_eq-true, or_rest, or_weaken, not_not}

-- the assignment makes each literal of the set false
pub record Falsifies (a : Assignment) (n : FalseSet) : Type 0 where
  pub falsified : (x : ℤ) → n x ≡ true → literal_holds a x ≡ false

pub literal_holds-neg_ℤ : (a : Assignment) (x : ℤ) → is_nonzero x ≡ true → literal_holds a (neg_ℤ x) ≡ not (literal_holds a x)
literal_holds-neg_ℤ a (pos zero) h = cc
literal_holds-neg_ℤ a (pos (suc n)) h = refl
literal_holds-neg_ℤ a (negsuc n) h = not_not (a (suc n))

-- a clause that doesn't hold has only false literals
pub Falsifies-literals_of : (a : Assignment) (clause : List ℤ) → clause_holds a clause ≡ false → Falsifies a (literals_of clause)
Falsifies-literals_of a clause h = record { falsified = each clause h } where
  each : (clause : List ℤ) → clause_holds a clause ≡ false → (x : ℤ) → literals_of clause x ≡ true → literal_holds a x ≡ false
  each [] h x m = cc
  each (y ∷ ys) h x m = elim (or_cases (int_eq x y) _ m) [
    | inl here ↦ ap (literal_holds a) (int_eq-true x y here) ∙ (or_parts (literal_holds a y) _ h).0
    | inr later ↦ each ys (or_parts (literal_holds a y) _ h).1 x later
  ]

Falsifies-with_literal : (a : Assignment) (n : FalseSet) (y : ℤ) → Falsifies a n → literal_holds a y ≡ false
    → Falsifies a (with_literal y n)
Falsifies-with_literal a n y f h = record {
  falsified = λ x m. elim (or_cases (int_eq x y) (n x) m) [
    | inl here ↦ ap (literal_holds a) (int_eq-true x y here) ∙ h
    | inr before ↦ f.falsified x before
  ];
}

clause_holds-outside : (a : Assignment) (n : FalseSet) → Falsifies a n → (clause : List ℤ) → clause_holds a clause ≡ true
    → clause_holds a (outside n clause) ≡ true
clause_holds-outside a n f [] h = h
clause_holds-outside a n f (x ∷ xs) h =
    elim (n x) as (λ b. n x ≡ b → clause_holds a (cond (not b) (x ∷ outside n xs) (outside n xs)) ≡ true) [
      | true ↦ λ e. clause_holds-outside a n f xs (or_rest _ _ (f.falsified x e) h)
      | false ↦ λ e. or_weaken (literal_holds a x) _ _ (clause_holds-outside a n f xs) h
    ] refl

has_no_zero-outside : (n : FalseSet) (clause : List ℤ) → has_no_zero clause ≡ true → has_no_zero (outside n clause) ≡ true
has_no_zero-outside n [] h = h
has_no_zero-outside n (x ∷ xs) h =
    let rest : has_no_zero (outside n xs) ≡ true = has_no_zero-outside n xs (and_parts (is_nonzero x) _ h).1 in
    elim (n x) as (λ b. has_no_zero (cond (not b) (x ∷ outside n xs) (outside n xs)) ≡ true) [
      | true ↦ rest
      | false ↦ rw ((and_parts (is_nonzero x) _ h).0) rest
    ]

-- copies of a false literal don't make a clause hold
all_same_false : (a : Assignment) (x : ℤ) (xs : List ℤ) → list_all (int_eq x) xs ≡ true → literal_holds a x ≡ false → clause_holds a xs
    ≡ false
all_same_false a x [] same h = refl
all_same_false a x (y ∷ ys) same h =
    or_from _ _ (ap (literal_holds a) (sym (int_eq-true x y (and_parts (int_eq x y) _ same).0))
    ∙ h) (all_same_false a x ys (and_parts (int_eq x y) _ same).1 h)

forced_holds : (a : Assignment) (x : ℤ) (xs : List ℤ) → list_all (int_eq x) xs ≡ true → clause_holds a (x ∷ xs) ≡ true → literal_holds a x
    ≡ true
forced_holds a x xs same h =
    elim (literal_holds a x) as (λ b. literal_holds a x ≡ b → b ≡ true) [
      | true ↦ λ e. refl
      | false ↦ λ e. absurd (both_ways (clause_holds a xs) (all_same_false a x xs same e) (or_rest _ _ e h))
    ] refl

-- what an outcome tells of an assignment that satisfies the live clauses and makes the given literals false
abbrev pub IsSound : Assignment → Outcome → Type 0
IsSound a (Open n) = Falsifies a n
IsSound a Closed = ⊥
IsSound a (Bad reason) = Unit {0}

after_effect-sound : (a : Assignment) (n : FalseSet) (more : FalseSet → Outcome) → Falsifies a n
    → ((m : FalseSet) → Falsifies a m → IsSound a (more m))
    → (xs : List ℤ) → clause_holds a xs ≡ true → has_no_zero xs ≡ true → IsSound a (after_effect n more (effect_of_outside xs))
after_effect-sound a n more f sound [] h z = cc
after_effect-sound a n more f sound (x ∷ xs) h z =
    elim (list_all (int_eq x) xs) as (λ b. list_all (int_eq x) xs ≡ b → IsSound a (after_effect n more (if b then Forced x else NotUnit))) [
      | true ↦ λ e. sound (with_literal (neg_ℤ x) n) (Falsifies-with_literal a n (neg_ℤ x) f
          (literal_holds-neg_ℤ a x (and_parts (is_nonzero x) _ z).0 ∙ ap not (forced_holds a x xs e h)))
      | false ↦ λ e. tt
    ] refl

pub chain-sound : (a : Assignment) (live : Live) → LiveHasNoZero live → SatisfiesLive a live → (n : FalseSet) (hints : List ℕ)
    → Falsifies a n → IsSound a (chain live n hints)
chain-sound a live z s n [] f = f
chain-sound a live z s n (hint ∷ hints) f =
    elim (clause_at live hint) as (λ o. clause_at live hint ≡ o → IsSound a (after_hint n (λ m. chain live m hints) o)) [
      | None ↦ λ e. tt
      | Some clause ↦ λ e. after_effect-sound a n (λ m. chain live m hints) f (λ m g. chain-sound a live z s m hints g)
          (outside n clause) (clause_holds-outside a n f clause (s hint clause e)) (has_no_zero-outside n clause (z hint clause e))
    ] refl

-- a clause whose negation the hints refute holds
pub clause_holds-Closes : (a : Assignment) (live : Live) (clause : List ℤ) (hints : List ℕ) → LiveHasNoZero live → SatisfiesLive a live
    → chain live (literals_of clause) hints ≡ Closed → clause_holds a clause ≡ true
clause_holds-Closes a live clause hints z s closed =
    elim (clause_holds a clause) as (λ b. clause_holds a clause ≡ b → b ≡ true) [
      | true ↦ λ e. refl
      | false ↦ λ e. absurd (subst (IsSound a) closed (chain-sound a live z s (literals_of clause) hints
          (Falsifies-literals_of a clause e)))
    ] refl
