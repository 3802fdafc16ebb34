-- How often a number stands in a list, and in 1, 2, .. up to a number.
use Rattle.std.proofs.Common.{◌≡◌, ℕ, zero, suc, ◌+◌, ◌<◌, ◌≤◌, ◌⊎◌, cond, List, [], ◌∷◌, ◌++◌, refl, ap, arith, inl, inr, eq-eqb, ne_eqb}
use Rattle.std.specs.Prelude.{◌==◌}
use Rattle.std.proofs.lemmas.Bool.{cases_eq}
use Rattle.cnf_base.specs.Order.{natural}

abbrev pub standing : ℕ → List ℕ → ℕ
standing i [] = 0
standing i (j ∷ js) = cond (j == i) 1 0 + standing i js

pub standing_append : (i : ℕ) (xs ys : List ℕ) → standing i (xs ++ ys) ≡ standing i xs + standing i ys
standing_append i [] ys = omega arith
standing_append i (x ∷ xs) ys = omega (arith, standing_append i xs ys)

-- a number alone
pub same_number : (i j : ℕ) → j ≡ i → standing i (j ∷ []) ≡ 1
same_number i j same = ap (λ b. cond b 1 0 + 0) (eq-eqb j i same)

pub other_number : (i j : ℕ) → (j ≡ i → ⊥) → standing i (j ∷ []) ≡ 0
other_number i j differ = ap (λ b. cond b 1 0 + 0) (ne_eqb j i differ)

pub standing_outside : (i k : ℕ) → (i ≡ 0) ⊎ (k < i) → standing i (natural k) ≡ 0
standing_outside i zero out = refl
standing_outside i (suc k) out =
    let apart : suc k ≡ i → ⊥ = elim out [ inl none ↦ λ same. omega (arith, none, same) | inr past ↦ λ same. omega (arith, past, same) ] in
    let shorter : (i ≡ 0) ⊎ (k < i) = elim out [ inl none ↦ inl none | inr past ↦ inr (omega (arith, past)) ] in
    omega (arith, standing_append i (natural k) (suc k ∷ []), standing_outside i k shorter, other_number i (suc k) apart)

pub standing_natural : (i k : ℕ) → 0 < i → i ≤ k → standing i (natural k) ≡ 1
standing_natural i zero a b = absurd (omega (arith, a, b))
standing_natural i (suc k) a b =
    elim (cases_eq (suc k) i) [
      | inl same ↦ omega (
        arith,
        standing_append i (natural k) (suc k ∷ []),
        standing_outside i k (inr (omega (arith, same))),
        same_number i (suc k) same,
      )
      | inr differ ↦ omega (
        arith,
        standing_append i (natural k) (suc k ∷ []),
        standing_natural i k a (omega (arith, b, differ)),
        other_number i (suc k) differ,
      )
    ]
