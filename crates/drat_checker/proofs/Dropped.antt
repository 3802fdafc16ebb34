-- A number is dropped from a list, and the last one takes its place: no other number is lost.
use Rattle.std.proofs.Common.{◌≡◌, ℕ, zero, suc, ◌+◌, ◌-◌, ◌<◌, ◌≤◌, true, false, cond, ◌||◌, List, [], ◌∷◌, length, take, set, get_or}
use Rattle.std.proofs.Common.{nat_eq}
use Rattle.std.proofs.Common.{refl, sym, ap, ◌∙◌, subst, arith}
use Rattle.std.specs.List.{sum_by, swap_remove}
use Rattle.std.proofs.lemmas.List.{take-take, take-set}
use Rattle.std.proofs.lemmas.List.Sums.{sum_by-cons, sum_by-swap_remove}
use Rattle.drat_checker.specs.Numbers.{has_number}

-- 1 for the number itself
abbrev one_of : ℕ → ℕ → ℕ
one_of n m = cond (nat_eq n m) 1 0

counted : (n : ℕ) (xs : List ℕ) → has_number n xs ≡ true → 0 < sum_by (one_of n) xs
counted n [] h = cc
counted n (x ∷ xs) h =
    let some : 0 < one_of n x + sum_by (one_of n) xs =
    elim (nat_eq n x) as (λ b. (b || has_number n xs) ≡ true → 0 < cond b 1 0 + sum_by (one_of n) xs) [
      | true ↦ λ here. omega arith
      | false ↦ λ later. let rest : 0 < sum_by (one_of n) xs = counted n xs later in omega arith
    ] h in
    subst (λ (k : ℕ). 0 < k) (sym (sum_by-cons (one_of n) x xs)) some

found : (n : ℕ) (xs : List ℕ) → 0 < sum_by (one_of n) xs → has_number n xs ≡ true
found n [] h = absurd (omega arith)
found n (x ∷ xs) h =
    let some : 0 < one_of n x + sum_by (one_of n) xs = subst (λ (k : ℕ). 0 < k) (sum_by-cons (one_of n) x xs) h in
    elim (nat_eq n x) as (λ b. 0 < cond b 1 0 + sum_by (one_of n) xs → (b || has_number n xs) ≡ true) [
      | true ↦ λ here. refl
      | false ↦ λ later. found n xs (omega arith)
    ] some

get_or-any : (xs : List ℕ) (i d e : ℕ) → i < length xs → get_or xs i d ≡ get_or xs i e
get_or-any [] i d e within = absurd (omega arith)
get_or-any (x ∷ xs) zero d e within = refl
get_or-any (x ∷ xs) (suc i) d e within = get_or-any xs i d e (omega arith)

pub dropped-kept : (xs : List ℕ) (i d : ℕ) → i < length xs → (n : ℕ) → nat_eq n (get_or xs i 0) ≡ false → has_number n xs ≡ true
    → has_number n (swap_remove xs i d) ≡ true
dropped-kept xs i d within n other listed =
    let all : sum_by (one_of n) (swap_remove xs i d) + one_of n (get_or xs i 0) ≡ sum_by (one_of n) xs =
    ap (λ k. sum_by (one_of n) (swap_remove xs i d) + one_of n k) (get_or-any xs i 0 d within)
    ∙ sum_by-swap_remove (one_of n) xs i d within in
    let gone : one_of n (get_or xs i 0) ≡ 0 = ap (λ b. cond b 1 0) other in
    let some : 0 < sum_by (one_of n) xs = counted n xs listed in
    found n (swap_remove xs i d) (omega arith)

pub dropped-front : (xs : List ℕ) (i d : ℕ) → i < length xs → take i (swap_remove xs i d) ≡ take i xs
dropped-front xs i d within =
    let le : i ≤ length xs - 1 = omega arith in
    take-take i (length xs - 1) (set xs i (get_or xs (length xs - 1) d)) le ∙ take-set xs i (get_or xs (length xs - 1) d)
