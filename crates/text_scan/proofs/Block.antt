-- What is left of a block, and the front of a token.
use Rattle.std.proofs.Common.{◌≡◌, ℕ, zero, suc, ◌+◌, ◌<◌, ◌≤◌, min, List, [], ◌∷◌, length, get_or, take, drop, refl, ◌∙◌, ap, arith}
use Rattle.std.proofs.Common.{add-one}
use Rattle.std.specs.Prelude.{nat_lt}
use Rattle.cnf_base.specs.Text.{has_bytes}

-- the next byte, and what is left after it
drop-take_suc : (xs : List ℕ) (at end : ℕ) → at < end → end ≤ length xs → drop at (take end xs) ≡ get_or xs at 0
    ∷ drop (suc at) (take end xs)
drop-take_suc [] at end below fits = absurd (omega arith)
drop-take_suc (x ∷ xs) zero zero below fits = absurd (omega arith)
drop-take_suc (x ∷ xs) zero (suc end) below fits = refl
drop-take_suc (x ∷ xs) (suc at) zero below fits = absurd (omega arith)
drop-take_suc (x ∷ xs) (suc at) (suc end) below fits = drop-take_suc xs at end (omega arith) (omega arith)

pub drop-take_cons : (xs : List ℕ) (at end : ℕ) → at < end → end ≤ length xs → drop at (take end xs) ≡ get_or xs at 0
    ∷ drop (at + 1) (take end xs)
drop-take_cons xs at end below fits = rw (add-one at) (drop-take_suc xs at end below fits)

-- something is left exactly where the end isn't reached
pub has_bytes-drop : (xs : List ℕ) (at end : ℕ) → end ≤ length xs → nat_lt at end ≡ has_bytes (drop at (take end xs))
has_bytes-drop xs zero zero fits = refl
has_bytes-drop [] zero (suc end) fits = absurd (omega arith)
has_bytes-drop (x ∷ xs) zero (suc end) fits = grind arith
has_bytes-drop xs (suc at) zero fits = grind arith
has_bytes-drop [] (suc at) (suc end) fits = absurd (omega arith)
has_bytes-drop (x ∷ xs) (suc at) (suc end) fits = let e : nat_lt (suc at) (suc end) ≡ nat_lt at end = grind arith in e
    ∙ has_bytes-drop xs at end (omega arith)

-- the front of a front
pub take_take : (n m : ℕ) (xs : List ℕ) → take (min m n) xs ≡ take n (take m xs)
take_take zero m xs = let e : min m 0 ≡ 0 = omega arith in rw e refl
take_take (suc n) zero xs = let e : min 0 (suc n) ≡ 0 = omega arith in rw e refl
take_take (suc n) (suc m) [] = let e : min (suc m) (suc n) ≡ suc (min m n) = omega arith in rw e refl
take_take (suc n) (suc m) (x ∷ xs) = let e : min (suc m) (suc n) ≡ suc (min m n) = omega arith in rw e (ap (λ l. x ∷ l) (take_take n m xs))
