-- Elements of a list that begins with x, and of what a test keeps.
use Rattle.std.proofs.Common.{◌≡◌, ◌⊎◌, ◌∷◌, Bool, true, false, cond, List, [], Contains, filter, arith, refl, sym, subst, inl, inr}
use Rattle.std.proofs.lemmas.List.Elements.{All-contains, All-contains_itself, All-filter, Contains-append_cases, Contains-append_right}
use Rattle.std.proofs.lemmas.List.Elements.{Contains-push_cases, filter_passes}

module _ {X : Type 0} where
  pub there_none : (y : X) → Contains [] y → ⊥
  there_none y there = let within = there.1 in absurd (omega (arith, within))

  pub there_first : (x : X) (xs : List X) → Contains (x ∷ xs) x
  there_first x xs = (0, omega arith, refl)

  pub there_more : (x : X) (xs : List X) (y : X) → Contains xs y → Contains (x ∷ xs) y
  there_more x xs y there = Contains-append_right (x ∷ []) xs y there

  pub first_or_more : (x : X) (xs : List X) (y : X) → Contains (x ∷ xs) y → (x ≡ y) ⊎ Contains xs y
  first_or_more x xs y there = elim (Contains-append_cases (x ∷ []) xs y there) [
    | inl first ↦ elim (Contains-push_cases [] x y first) [
      | inl none ↦ absurd (there_none y none)
      | inr same ↦ inl same
    ]
    | inr more ↦ inr more
  ]

  module _ (test : X → Bool) where
    -- what is kept was there and passes
    pub filter_there : (xs : List X) (y : X) → Contains (filter test xs) y → Contains xs y
    filter_there xs y there = All-contains (Contains xs) (filter test xs) y
        (All-filter test (Contains xs) xs (All-contains_itself xs)) there

    pub filter_passed : (xs : List X) (y : X) → Contains (filter test xs) y → test y ≡ true
    filter_passed xs y there = All-contains (λ x. test x ≡ true) (filter test xs) y (filter_passes test xs) there

    -- what passes is kept
    kept_behind : (b : Bool) (x : X) (xs : List X) (y : X) → Contains xs y → Contains (cond b (x ∷ xs) xs) y
    kept_behind true x xs y there = there_more x xs y there
    kept_behind false x xs y there = there

    pub filter_kept : (xs : List X) (y : X) → Contains xs y → test y ≡ true → Contains (filter test xs) y
    filter_kept [] y there passes = there
    filter_kept (x ∷ xs) y there passes = elim (first_or_more x xs y there) [
      | inl same ↦ subst (λ z. Contains (filter test (z ∷ xs)) y) (sym same)
          (subst (λ b. Contains (cond b (y ∷ filter test xs) (filter test xs)) y) (sym passes) (there_first y (filter test xs)))
      | inr more ↦ kept_behind (test x) x (filter test xs) y (filter_kept xs y more passes)
    ]
