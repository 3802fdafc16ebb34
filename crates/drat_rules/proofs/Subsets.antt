-- Some subset passes a test exactly where there is one that does.
use Rattle.std.proofs.Common.{◌≡◌, Bool, true, false, cond, ℤ, List, [], ◌∷◌}
use Rattle.std.proofs.Common.{inl, inr}
use Rattle.std.specs.List.{filter}
use Rattle.std.proofs.lemmas.Bool.{or_cases, or_left, or_right}
use Rattle.drat_rules.specs.Quiet.{some_subset}

-- the literals that pass p are a subset
pub some_subset-filter : (p : ℤ → Bool) (test : List ℤ → Bool) (xs : List ℤ) → test (filter p xs) ≡ true → some_subset test xs ≡ true
some_subset-filter p test [] h = h
some_subset-filter p test (x ∷ xs) h =
    elim (p x) as (λ b. test (cond b (x ∷ filter p xs) (filter p xs)) ≡ true → some_subset test (x ∷ xs) ≡ true) [
      | true ↦ λ with_x. or_right (some_subset test xs) _ (some_subset-filter p (λ chosen. test (x ∷ chosen)) xs with_x)
      | false ↦ λ without. or_left _ _ (some_subset-filter p test xs without)
    ] h

pub chosen_subset : (test : List ℤ → Bool) (xs : List ℤ) → some_subset test xs ≡ true → (chosen : List ℤ) × (test chosen ≡ true)
chosen_subset test [] h = ([], h)
chosen_subset test (x ∷ xs) h =
    elim (or_cases (some_subset test xs) _ h) [
      | inl without ↦ chosen_subset test xs without
      | inr with_x ↦
          let rest : (chosen : List ℤ) × (test (x ∷ chosen) ≡ true) = chosen_subset (λ chosen. test (x ∷ chosen)) xs with_x in
          (x ∷ rest.0, rest.1)
    ]
