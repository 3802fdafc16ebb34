-- A quiet set that has the literals which are false before a chain of hints has all that the hints make false, and the hints
-- come to no conflict.
use Rattle.std.proofs.Common.{◌≡◌, ℕ, true, false, ℤ, neg_ℤ, List, [], ◌∷◌, None, Some, if◌then◌else◌, int_eq, refl, ap, ◌∙◌}
use Rattle.std.proofs.Common.{inl, inr}
use Rattle.std.specs.List.{list_all}
use Rattle.std.proofs.lemmas.Bool.{or_cases}
use Rattle.lrat_rules.specs.declared.outcome.Effect.TheVariants.{Unit as Forced, NotUnit}
use Rattle.lrat_rules.specs.State.{Live, clause_at}
use Rattle.lrat_rules.specs.Chain.{FalseSet, with_literal, outside, effect_of_outside, Outcome, Open, Closed, Bad}
use Rattle.lrat_rules.specs.Chain.{after_effect, after_hint, chain}
use Rattle.drat_rules.specs.Quiet.{adds_nothing, closed_under, Includes}
use Rattle.drat_rules.proofs.Members.{int_eq-true}
use Rattle.drat_rules.proofs.Propagation.{outside_twice, forced_within}

-- the set is closed under each live clause
pub record LiveClosed (q : FalseSet) (live : Live) : Type 0 where
  pub closed : (id : ℕ) (clause : List ℤ) → clause_at live id ≡ Some clause → closed_under q clause ≡ true

Includes-with_literal : (n q : FalseSet) (y : ℤ) → Includes q n → q y ≡ true → Includes q (with_literal y n)
Includes-with_literal n q y w h = record {
  includes = λ x m. elim (or_cases (int_eq x y) (n x) m) [
    | inl here ↦ ap q (int_eq-true x y here) ∙ h
    | inr before ↦ w.includes x before
  ];
}

-- what an outcome tells of a set that has the literals before it, and is closed under each live clause
abbrev pub EndsWithin : FalseSet → Outcome → Type 0
EndsWithin q (Open n) = Includes q n
EndsWithin q Closed = ⊥
EndsWithin q (Bad reason) = Unit {0}

after_effect-within : (q n : FalseSet) (more : FalseSet → Outcome) → Includes q n
    → ((m : FalseSet) → Includes q m → EndsWithin q (more m))
    → (xs : List ℤ) → adds_nothing q (effect_of_outside (outside q xs)) ≡ true → EndsWithin q (after_effect n more (effect_of_outside xs))
after_effect-within q n more w ends [] h = cc
after_effect-within q n more w ends (x ∷ xs) h =
    elim (list_all (int_eq x) xs)
    as (λ b. list_all (int_eq x) xs ≡ b → EndsWithin q (after_effect n more (if b then Forced x else NotUnit))) [
      | true ↦ λ e. ends (with_literal (neg_ℤ x) n) (Includes-with_literal n q (neg_ℤ x) w (forced_within q x xs e h))
      | false ↦ λ e. tt
    ] refl

pub chain-within : (q : FalseSet) (live : Live) → LiveClosed q live → (n : FalseSet) (hints : List ℕ) → Includes q n
    → EndsWithin q (chain live n hints)
chain-within q live c n [] w = w
chain-within q live c n (hint ∷ hints) w =
    elim (clause_at live hint) as (λ o. clause_at live hint ≡ o → EndsWithin q (after_hint n (λ m. chain live m hints) o)) [
      | None ↦ λ e. tt
      | Some clause ↦ λ e. after_effect-within q n (λ m. chain live m hints) w (λ m v. chain-within q live c m hints v)
          (outside n clause)
          (ap (λ l. adds_nothing q (effect_of_outside l)) (outside_twice n q w clause) ∙ c.closed hint clause e)
    ] refl
