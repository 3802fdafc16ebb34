-- The variables by rising number are an order.
use Rattle.std.proofs.Common.{◌≡◌, ℕ, zero, suc, ◌+◌, ◌-◌, ◌<◌, List, [], ◌∷◌, ◌++◌, length, refl, ap, ◌∙◌, arith, inl, inr, length-append}
use Rattle.std.specs.Prelude.{slice_index_or}
use Rattle.std.proofs.lemmas.Bool.{cases_lt}
use Rattle.cnf_base.specs.Order.{natural, IsOrder}

length-natural : (n : ℕ) → length (natural n) ≡ n
length-natural zero = refl
length-natural (suc n) = omega (arith, length-append (natural n) (suc n ∷ []), length-natural n)

at_front : (xs ys : List ℕ) (i : ℕ) → i < length xs → slice_index_or (xs ++ ys) i 0 ≡ slice_index_or xs i 0
at_front [] ys i small = absurd (omega (arith, small))
at_front (x ∷ xs) ys zero small = refl
at_front (x ∷ xs) ys (suc i) small = at_front xs ys i (omega (arith, small))

at_end : (xs : List ℕ) (y : ℕ) → slice_index_or (xs ++ y ∷ []) (length xs) 0 ≡ y
at_end [] y = refl
at_end (x ∷ xs) y = at_end xs y

natural_at : (n place : ℕ) → place < n → slice_index_or (natural n) place 0 ≡ place + 1
natural_at zero place small = absurd (omega (arith, small))
natural_at (suc n) place small =
    elim (cases_lt place n) [
      | inl early ↦ at_front (natural n) (suc n ∷ []) place (omega (arith, early, length-natural n)) ∙ natural_at n place early
      | inr late ↦
          let last : place ≡ length (natural n) = omega (arith, small, late, length-natural n) in
          ap (λ i. slice_index_or (natural n ++ suc n ∷ []) i 0) last ∙ at_end (natural n) (suc n) ∙ omega (arith, small, late)
    ]

pub natural_is_order : (n : ℕ) → IsOrder (natural n)
natural_is_order n = record {
  within = λ place small.
      let at = natural_at n place (omega (arith, small, length-natural n)) in
      (omega (arith, at), omega (arith, at, small));
  apart = λ place other small late same.
      omega (
        arith,
        natural_at n place (omega (arith, small, length-natural n)),
        natural_at n other (omega (arith, late, length-natural n)),
        same,
      );
  each = λ variable positive small.
      let inside : variable - 1 < n = omega (arith, positive, small, length-natural n) in
      (variable - 1, omega (arith, inside, length-natural n), natural_at n (variable - 1) inside ∙ omega (arith, positive));
}
