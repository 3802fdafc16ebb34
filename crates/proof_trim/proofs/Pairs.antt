-- Decimal digits, two at a time, and how many a number has.
use Rattle.std.proofs.Common.{◌≡◌, ℕ, ◌+◌, ◌/◌, ◌%◌, ◌^◌, ◌<◌, ◌≤◌, List, [], ◌∷◌, ◌++◌, length, ap}
use Rattle.std.proofs.Common.{◌∙◌, append_assoc, length-append, arith}
use Rattle.std.specs.Prelude.{decimal}
use Rattle.std.proofs.lemmas.Fmt.{decimal_digit, decimal_step, length-decimal-le}

pub pair_alone : (n : ℕ) → 10 ≤ n → n < 100 → decimal n ≡ (48 + n / 10) ∷ (48 + n % 10) ∷ []
pair_alone n great small = rw (decimal_step n great (omega arith), decimal_digit (n / 10) (omega arith))

pub pair_more : (n : ℕ) → 100 ≤ n → n < 2 ^ 64 → decimal n ≡ decimal (n / 100) ++ (48 + n % 100 / 10) ∷ (48 + n % 100 % 10) ∷ []
pair_more n great fits =
    let a : n / 10 / 10 ≡ n / 100 = omega arith in
    let b : n / 10 % 10 ≡ n % 100 / 10 = omega arith in
    let c : n % 10 ≡ n % 100 % 10 = omega arith in
    rw (decimal_step n (omega arith) fits, decimal_step (n / 10) (omega arith) (omega arith), append_assoc, a, b, ← c)

-- four digits more
pub four_more : (n : ℕ) → 10000 ≤ n → n < 2 ^ 64 → decimal n ≡ decimal (n / 10000)
    ++ (48 + n % 10000 / 100 / 10) ∷ (48 + n % 10000 / 100 % 10) ∷ (48 + n % 10000 % 100 / 10) ∷ (48 + n % 10000 % 100 % 10) ∷ []
four_more n great fits =
    let a : n / 100 / 100 ≡ n / 10000 = omega arith in
    let b : n / 100 % 100 ≡ n % 10000 / 100 = omega arith in
    let c : n % 100 ≡ n % 10000 % 100 = omega arith in
    pair_more n (omega arith) fits
    ∙ ap (λ (l : List ℕ). l ++ (48 + n % 100 / 10) ∷ (48 + n % 100 % 10) ∷ []) (pair_more (n / 100) (omega arith) (omega arith))
    ∙ append_assoc (decimal (n / 100 / 100)) ((48 + n / 100 % 100 / 10) ∷ (48 + n / 100 % 100 % 10) ∷ [])
    ((48 + n % 100 / 10) ∷ (48 + n % 100 % 10) ∷ [])
    ∙ (λ i. decimal (a i) ++ (48 + b i / 10) ∷ (48 + b i % 10) ∷ (48 + c i / 10) ∷ (48 + c i % 10) ∷ [])

pub one_digit : (n : ℕ) → n < 10 → length (decimal n) ≡ 1
one_digit n small = ap length (decimal_digit n small)

pub two_digits : (n : ℕ) → 10 ≤ n → n < 100 → length (decimal n) ≡ 2
two_digits n great small = ap length (pair_alone n great small)

pub two_more : (n : ℕ) → 100 ≤ n → n < 2 ^ 64 → length (decimal n) ≡ length (decimal (n / 100)) + 2
two_more n great fits = ap length (pair_more n great fits) ∙ length-append _ _

pub four_longer : (n : ℕ) → 10000 ≤ n → n < 2 ^ 64 → length (decimal n) ≡ length (decimal (n / 10000)) + 4
four_longer n great fits = ap length (four_more n great fits) ∙ length-append _ _

pub at_most_twenty : (n : ℕ) → n < 2 ^ 64 → length (decimal n) ≤ 20
at_most_twenty n fits = length-decimal-le 20 n (omega arith) (omega arith) fits

-- text behind text
pub behind : (held now first second after : List ℕ) → now ≡ held ++ first → after ≡ now ++ second → after ≡ held ++ (first ++ second)
behind held now first second after is more = more ∙ ap (λ (l : List ℕ). l ++ second) is ∙ append_assoc held first second
