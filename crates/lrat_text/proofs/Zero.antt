-- Where the first zero of a list stands.
use Rattle.std.proofs.Common.{◌≡◌, ℕ, zero, suc, ◌<◌, ◌≤◌, true, not, List, [], ◌∷◌, length, take, drop, get_or, ℤ, pos, Some, None}
use Rattle.std.proofs.Common.{option_map, refl, ◌∙◌, ap, arith}
use Rattle.std.specs.List.{list_all}
use Rattle.std.proofs.lemmas.Bool.{cond-true, cond-false, and_parts, not-true}
use Rattle.cnf_base.specs.ProofText.{in_front, split_at, is_zero}

pub zero_here : (xs : List ℤ) (n : ℕ) → list_all (λ x. not (is_zero x)) (take n xs) ≡ true → n < length xs → is_zero (get_or xs n (pos 0))
    ≡ true → split_at is_zero xs ≡ Some (take n xs, drop (suc n) xs)
zero_here [] n before within here = absurd (omega arith)
zero_here (x ∷ xs) zero before within here = cond-true _ _ _ here
zero_here (x ∷ xs) (suc n) before within here =
    let parts = and_parts (not (is_zero x)) (list_all (λ y. not (is_zero y)) (take n xs)) before in
    cond-false _ _ _ (not-true (is_zero x) parts.0) ∙ ap (option_map (in_front x)) (zero_here xs n parts.1 (omega arith) here)

pub no_zero : (xs : List ℤ) → list_all (λ x. not (is_zero x)) xs ≡ true → split_at is_zero xs ≡ None
no_zero [] all = refl
no_zero (x ∷ xs) all =
    let parts = and_parts (not (is_zero x)) (list_all (λ y. not (is_zero y)) xs) all in
    cond-false _ _ _ (not-true (is_zero x) parts.0) ∙ ap (option_map (in_front x)) (no_zero xs parts.1)

pub all_before : (xs : List ℤ) (n : ℕ) → list_all (λ x. not (is_zero x)) (take n xs) ≡ true → length xs ≤ n
    → list_all (λ x. not (is_zero x)) xs ≡ true
all_before [] n before past = refl
all_before (x ∷ xs) zero before past = absurd (omega arith)
all_before (x ∷ xs) (suc n) before past =
    let parts = and_parts (not (is_zero x)) (list_all (λ y. not (is_zero y)) (take n xs)) before in
    rw (parts.0, all_before xs n parts.1 (omega arith)) refl
