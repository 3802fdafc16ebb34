-- What is kept of a token says the same as the token.
use Rattle.std.proofs.Common.{◌≡◌, ℕ, zero, suc, ◌≤◌, min, Bool, true, false, List, [], ◌∷◌, length, take, refl, ◌∙◌, ap, arith}
use Rattle.std.proofs.Common.{length-take}
use Rattle.std.specs.Prelude.{nat_le, map, Option, None, if◌then◌else◌, ◌&&◌, IsTrue}
use Rattle.std.specs.List.{list_all}
use Rattle.cnf_base.specs.Number.{is_short, numeral_value, plain_number, signed_value, signed_number}
use Rattle.cnf_base.specs.Text.{Word}
use Rattle.text_scan.specs.Items.{kept}

take_whole : (n : ℕ) (xs : List ℕ) → length xs ≤ n → take n xs ≡ xs
take_whole zero [] fits = refl
take_whole zero (x ∷ xs) fits = absurd (omega arith)
take_whole (suc n) [] fits = refl
take_whole (suc n) (x ∷ xs) fits = ap (λ (l : List ℕ). x ∷ l) (take_whole n xs (omega arith))

short_min : (n : ℕ) → nat_le (min 65 n) 64 ≡ nat_le n 64
short_min n = grind arith

pub is_short-take : (xs : List ℕ) → is_short (take 65 xs) ≡ is_short xs
is_short-take xs = ap (λ n. nat_le n 64) (length-take 65 xs) ∙ short_min (length xs)

pub take-short : (xs : List ℕ) → IsTrue (is_short xs) → take 65 xs ≡ xs
take-short xs short = take_whole 65 xs (grind arith)

-- a value of short tokens alone
part : {X : Type 0} (f : List ℕ → Option X) (xs : List ℕ) → (if is_short (take 65 xs) then f (take 65 xs) else None)
    ≡ (if is_short xs then f xs else None)
part f xs = elim (is_short xs) as (λ b. is_short xs ≡ b → (if is_short (take 65 xs) then f (take 65 xs) else None)
    ≡ (if is_short xs then f xs else None)) [
      | true ↦ λ short. rw (take-short xs short) refl
      | false ↦ λ long. rw (is_short-take xs, long) refl
    ] refl

pub plain_number-take : (xs : List ℕ) → plain_number (take 65 xs) ≡ plain_number xs
plain_number-take xs = part numeral_value xs

pub signed_number-take : (xs : List ℕ) → signed_number (take 65 xs) ≡ signed_number xs
signed_number-take xs = part signed_value xs

and_left : (a b : Bool) → IsTrue (a && b) → IsTrue a
and_left true b h = refl
and_left false b h = h

and_right : (a b : Bool) → IsTrue (a && b) → IsTrue b
and_right true b h = h
and_right false b h = cc

pub map-kept : (words : List Word) → IsTrue (list_all (λ word. is_short word.bytes) words) → map kept words ≡ words
map-kept [] short = refl
map-kept (word ∷ words) short =
    let first : take 65 word.bytes ≡ word.bytes = take-short word.bytes
    (and_left (is_short word.bytes) (list_all (λ word. is_short word.bytes) words) short) in
    rw (first, map-kept words (and_right (is_short word.bytes) (list_all (λ word. is_short word.bytes) words) short)) refl
