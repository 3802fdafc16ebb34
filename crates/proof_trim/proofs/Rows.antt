-- Numbers come and go at the top of a stack of bytes.
use Rattle.std.proofs.Common.{◌≡◌, ℕ, ◌+◌, ◌-◌, ◌*◌, ◌<◌, ◌≤◌, ◌/◌, ◌%◌, ◌^◌, false, List, [], ◌∷◌, ◌++◌, sym, ap, ◌∙◌, arith}
use Rattle.std.specs.Prelude.{reverse, nat_lt, if◌then◌else◌}
use Rattle.std.specs.List.{flat_map}
use Rattle.std.proofs.lemmas.Bool.{lt-ltb, le-ltb}
use Rattle.std.proofs.lemmas.List.{reverse-append}
use Rattle.std.proofs.Math.Nat.{mod-eq_of_lt}
use Rattle.proof_trim.specs.Row.{stacked, with_digit, numbers_behind, numbers}

-- a byte on top of the last chunk
pub stacked_more : (full : List (List ℕ)) (last : List ℕ) (byte : ℕ) → stacked full (last ++ byte ∷ []) ≡ byte ∷ stacked full last
stacked_more full last byte = ap (λ (l : List ℕ). l ++ flat_map reverse (reverse full)) (reverse-append last (byte ∷ []))

-- a chunk is full, and the next one begins
pub stacked_begun : (full : List (List ℕ)) (last : List ℕ) → stacked (full ++ last ∷ []) [] ≡ stacked full last
stacked_begun full last = ap (flat_map reverse) (reverse-append full (last ∷ []))

-- a digit of a number of 64 bits, which the other digits lead to
digit_of : (number less digit : ℕ) → number < 2 ^ 64 → less * 128 + digit ≡ number → with_digit less digit ≡ number
digit_of number less digit fits is =
    let small : less * 128 < 2 ^ 64 = omega (arith, fits, is) in
    ap (λ (n : ℕ). (n + digit) % 2 ^ 64) (mod-eq_of_lt small) ∙ ap (λ (n : ℕ). n % 2 ^ 64) is ∙ mod-eq_of_lt fits

digits : (number : ℕ) → number / 128 * 128 + number % 128 ≡ number
digits number = omega arith

low : (number : ℕ) → number % 128 < 128
low number = omega arith

-- the lowest digit is put first
pub lowest_put : (number : ℕ) (bytes : List ℕ) → number < 2 ^ 64
    → numbers_behind (number / 128) (number % 128 ∷ bytes) ≡ number ∷ numbers bytes
lowest_put number bytes fits =
    (λ i. if lt-ltb (number % 128) 128 (low number) i then with_digit (number / 128) (number % 128) ∷ numbers bytes
    else numbers_behind (with_digit (number / 128) (number % 128 - 128)) bytes)
    ∙ ap (λ (n : ℕ). n ∷ numbers bytes) (digit_of number (number / 128) (number % 128) fits (digits number))

-- and then each higher one
pub higher_put : (number : ℕ) (bytes : List ℕ) → number < 2 ^ 64
    → numbers_behind (number / 128) ((number % 128 + 128) ∷ bytes) ≡ numbers_behind number bytes
higher_put number bytes fits =
    let above : nat_lt (number % 128 + 128) 128 ≡ false = le-ltb (number % 128 + 128) 128 (omega arith) in
    let less : (number % 128 + 128) - 128 ≡ number % 128 = omega arith in
    (λ i. if above i then with_digit (number / 128) (number % 128 + 128) ∷ numbers bytes
    else numbers_behind (with_digit (number / 128) (less i)) bytes)
    ∙ ap (λ (n : ℕ). numbers_behind n bytes) (digit_of number (number / 128) (number % 128) fits (digits number))

-- a byte comes off that ends a number, and one that doesn't
pub last_taken : (number byte : ℕ) (bytes : List ℕ) → byte < 128 → numbers_behind number (byte ∷ bytes) ≡ with_digit number byte ∷ numbers
    bytes
last_taken number byte bytes small =
    λ i. if lt-ltb byte 128 small i then with_digit number byte ∷ numbers bytes else numbers_behind (with_digit number (byte - 128)) bytes

pub higher_taken : (number byte : ℕ) (bytes : List ℕ) → 128 ≤ byte
    → numbers_behind number (byte ∷ bytes) ≡ numbers_behind (with_digit number (byte - 128)) bytes
higher_taken number byte bytes great =
    λ i. if le-ltb byte 128 great i then with_digit number byte ∷ numbers bytes else numbers_behind (with_digit number (byte - 128)) bytes

-- The loops over the digits of a number.
pub digits_begun : (number : ℕ) (bytes now : List ℕ) → number < 2 ^ 64 → now ≡ number % 128 ∷ bytes
    → numbers_behind (number / 128) now ≡ number ∷ numbers bytes
digits_begun number bytes now fits put = ap (numbers_behind (number / 128)) put ∙ lowest_put number bytes fits

pub digit_put : (left byte : ℕ) (bytes now whole : List ℕ) → left < 2 ^ 64 → numbers_behind left bytes ≡ whole → byte ≡ left % 128 + 128
    → now ≡ byte ∷ bytes → numbers_behind (left / 128) now ≡ whole
digit_put left byte bytes now whole fits so_far is put =
    ap (numbers_behind (left / 128)) (put ∙ ap (λ (n : ℕ). n ∷ bytes) is) ∙ higher_put left bytes fits ∙ so_far

pub digits_put : (left : ℕ) (bytes whole : List ℕ) → numbers_behind left bytes ≡ whole → left ≤ 0 → numbers bytes ≡ whole
digits_put left bytes whole so_far none = let zero : 0 ≡ left = omega (arith, none) in ap (λ (n : ℕ). numbers_behind n bytes) zero ∙ so_far

pub digit_taken : (number byte next : ℕ) (bytes rest whole : List ℕ) → whole ≡ numbers_behind number bytes → bytes ≡ byte ∷ rest
    → 128 ≤ byte → next ≡ with_digit number (byte - 128) → whole ≡ numbers_behind next rest
digit_taken number byte next bytes rest whole so_far is great more =
    so_far ∙ ap (numbers_behind number) is ∙ higher_taken number byte rest great ∙ ap (λ (n : ℕ). numbers_behind n rest) (sym more)

pub number_taken : (number byte next : ℕ) (bytes rest whole : List ℕ) → whole ≡ numbers_behind number bytes → bytes ≡ byte ∷ rest
    → byte < 128 → next ≡ with_digit number byte → whole ≡ next ∷ numbers rest
number_taken number byte next bytes rest whole so_far is small more =
    so_far ∙ ap (numbers_behind number) is ∙ last_taken number byte rest small ∙ ap (λ (n : ℕ). n ∷ numbers rest) (sym more)

pub none_taken : (number : ℕ) (bytes whole : List ℕ) → whole ≡ numbers_behind number bytes → bytes ≡ [] → whole ≡ []
none_taken number bytes whole so_far is = so_far ∙ ap (numbers_behind number) is

-- Chunks come and go.
pub chunk_begun : (full now : List (List ℕ)) (last chunk fresh : List ℕ) → now ≡ full ++ chunk ∷ [] → chunk ≡ last → fresh ≡ []
    → stacked now fresh ≡ stacked full last
chunk_begun full now last chunk fresh more is none =
    (λ i. stacked (more i) (none i)) ∙ stacked_begun full chunk ∙ ap (stacked full) is

pub chunk_popped : (full rest whole : List (List ℕ)) (chunk : List ℕ) → stacked full [] ≡ stacked whole [] → full ≡ rest ++ chunk ∷ []
    → stacked rest chunk ≡ stacked whole []
chunk_popped full rest whole chunk so_far is = sym (ap (λ (f : List (List ℕ)). stacked f []) is ∙ stacked_begun rest chunk) ∙ so_far

pub byte_popped : (full : List (List ℕ)) (last now : List ℕ) (byte : ℕ) → last ≡ now ++ byte ∷ []
    → stacked full last ≡ byte ∷ stacked full now
byte_popped full last now byte is = ap (stacked full) is ∙ stacked_more full now byte
