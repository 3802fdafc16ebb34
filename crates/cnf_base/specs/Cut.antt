-- Facts on a row of literals that is cut at ends, for all that store clauses so: what it is after more literals or
-- one end more, and its clause at a place.
use Rattle.std.proofs.Common.{◌≡◌, ℕ, zero, suc, ◌-◌, ◌<◌, ◌≤◌, Bool, true, ℤ, List, [], ◌∷◌, ◌++◌, length, get_or, take, drop, refl, ◌∙◌}
use Rattle.std.proofs.Common.{ap, arith, length-drop}
use Rattle.std.proofs.lemmas.Bool.{leb-true, le-leb, and_parts, and_from}
use Rattle.std.proofs.lemmas.List.{take-append-le, drop-append-le, take_all}
use Rattle.std.specs.Prelude.{nat_le, slice_range, slice_index_or}
use Rattle.std.specs.List.{list_all}
use Rattle.cnf_base.specs.Formula.{cut_at, last_end, start_at, are_ends}

pub length-cut_at : (xs : List ℤ) (s : ℕ) (ends : List ℕ) → length (cut_at xs s ends) ≡ length ends
length-cut_at xs s [] = refl
length-cut_at xs s (e ∷ ends) = ap suc (length-cut_at xs e ends)

-- the test of the first end, and those of the others
are_ends-first : (s e n : ℕ) (ends : List ℕ) → are_ends s (e ∷ ends) n ≡ true → (s ≤ e) × (are_ends e ends n ≡ true)
are_ends-first s e n ends h = let both = and_parts (nat_le s e) (are_ends e ends n) h in (leb-true s e both.0, both.1)

pub are_ends-last : (s n : ℕ) (ends : List ℕ) → are_ends s ends n ≡ true → (s ≤ n) × (last_end s ends ≤ n)
are_ends-last s n [] h = (leb-true s n h, leb-true s n h)
are_ends-last s n (e ∷ ends) h =
    let first = are_ends-first s e n ends h in
    let rest = are_ends-last e n ends first.1 in
    (omega arith, rest.1)

pub are_ends-longer : (s n m : ℕ) (ends : List ℕ) → n ≤ m → are_ends s ends n ≡ true → are_ends s ends m ≡ true
are_ends-longer s n m [] le h = let small = leb-true s n h in le-leb s m (omega arith)
are_ends-longer s n m (e ∷ ends) le h =
    let first = are_ends-first s e n ends h in
    and_from (nat_le s e) (are_ends e ends m) (le-leb s e first.0) (are_ends-longer e n m ends le first.1)

pub are_ends-push : (s n : ℕ) (ends : List ℕ) → are_ends s ends n ≡ true → are_ends s (ends ++ n ∷ []) n ≡ true
are_ends-push s n [] h = and_from (nat_le s n) (nat_le n n) h (le-leb n n (omega arith))
are_ends-push s n (e ∷ ends) h =
    let first = are_ends-first s e n ends h in
    and_from (nat_le s e) (are_ends e (ends ++ n ∷ []) n) (le-leb s e first.0) (are_ends-push e n ends first.1)

range-append : (xs ys : List ℤ) (s e : ℕ) → s ≤ e → e ≤ length xs → slice_range (xs ++ ys) s e ≡ slice_range xs s e
range-append xs ys s e se le =
    let start : s ≤ length xs = omega arith in
    ap (take (e - s)) (drop-append-le s xs ys start)
    ∙ take-append-le (e - s) (drop s xs) ys (omega (arith, length-drop s xs))

pub cut_at-append : (xs ys : List ℤ) (s : ℕ) (ends : List ℕ) → are_ends s ends (length xs) ≡ true → cut_at (xs ++ ys) s ends
    ≡ cut_at xs s ends
cut_at-append xs ys s [] h = refl
cut_at-append xs ys s (e ∷ ends) h =
    let first = are_ends-first s e (length xs) ends h in
    let rest = are_ends-last e (length xs) ends first.1 in
    let here = range-append xs ys s e first.0 rest.0 in
    let there = cut_at-append xs ys e ends first.1 in
    λ i. here i ∷ there i

pub cut_at-end : (xs : List ℤ) (s e : ℕ) (ends : List ℕ) → cut_at xs s (ends ++ e ∷ []) ≡ cut_at xs s ends
    ++ slice_range xs (last_end s ends) e ∷ []
cut_at-end xs s e [] = refl
cut_at-end xs s e (f ∷ ends) = ap (λ cs. slice_range xs s f ∷ cs) (cut_at-end xs f e ends)

pub last_end-push : (s e : ℕ) (ends : List ℕ) → last_end s (ends ++ e ∷ []) ≡ e
last_end-push s e [] = refl
last_end-push s e (f ∷ ends) = last_end-push f e ends

-- to the end of the row a range is all that is left
pub range-to_end : (xs : List ℤ) (s : ℕ) → slice_range xs s (length xs) ≡ drop s xs
range-to_end xs s = take_all (length xs - s) (drop s xs) (omega (arith, length-drop s xs))

pub cut_at-get : (xs : List ℤ) (s : ℕ) (ends : List ℕ) (k : ℕ) → k < length ends → slice_index_or (cut_at xs s ends) k []
    ≡ slice_range xs (start_at s ends k) (get_or ends k 0)
cut_at-get xs s [] k h = absurd (omega arith)
cut_at-get xs s (e ∷ ends) zero h = refl
cut_at-get xs s (e ∷ ends) (suc zero) h = cut_at-get xs e ends zero (omega arith)
cut_at-get xs s (e ∷ ends) (suc (suc k)) h = cut_at-get xs e ends (suc k) (omega arith)

pub are_ends-get : (s n : ℕ) (ends : List ℕ) (k : ℕ) → k < length ends → are_ends s ends n ≡ true → (start_at s ends k ≤ get_or ends k 0)
    × (get_or ends k 0 ≤ n)
are_ends-get s n [] k lt h = absurd (omega arith)
are_ends-get s n (e ∷ ends) zero lt h =
    let first = are_ends-first s e n ends h in
    (first.0, (are_ends-last e n ends first.1).0)
are_ends-get s n (e ∷ ends) (suc zero) lt h = are_ends-get e n ends zero (omega arith) (are_ends-first s e n ends h).1
are_ends-get s n (e ∷ ends) (suc (suc k)) lt h = are_ends-get e n ends (suc k) (omega arith) (are_ends-first s e n ends h).1

list_all-take : {A : Type 0} (p : A → Bool) (n : ℕ) (xs : List A) → list_all p xs ≡ true → list_all p (take n xs) ≡ true
list_all-take p zero xs h = refl
list_all-take p (suc n) [] h = refl
list_all-take p (suc n) (x ∷ xs) h =
    let both = and_parts (p x) (list_all p xs) h in
    and_from (p x) (list_all p (take n xs)) both.0 (list_all-take p n xs both.1)

list_all-drop : {A : Type 0} (p : A → Bool) (n : ℕ) (xs : List A) → list_all p xs ≡ true → list_all p (drop n xs) ≡ true
list_all-drop p zero xs h = h
list_all-drop p (suc n) [] h = refl
list_all-drop p (suc n) (x ∷ xs) h = list_all-drop p n xs (and_parts (p x) (list_all p xs) h).1

pub list_all-cut_at : (p : ℤ → Bool) (xs : List ℤ) (s : ℕ) (ends : List ℕ) → list_all p xs ≡ true → list_all (list_all p) (cut_at xs s ends)
    ≡ true
list_all-cut_at p xs s [] h = refl
list_all-cut_at p xs s (e ∷ ends) h =
    and_from (list_all p (slice_range xs s e)) (list_all (list_all p) (cut_at xs e ends))
    (list_all-take p (e - s) (drop s xs) (list_all-drop p s xs h)) (list_all-cut_at p xs e ends h)
