-- A number that is printed is read again, and its text is a word.
use Rattle.std.proofs.Common.{◌≡◌, ℕ, suc, ◌^◌, ◌<◌, ◌≤◌, true, false, not, ◌==◌, List, [], ◌∷◌, length, ℤ, pos, negsuc, nat_abs, Some}
use Rattle.std.proofs.Common.{option_map, option_and_then, decimal, refl, ap, ◌∙◌, arith, rules}
use Rattle.std.specs.Fmt.{signed_decimal}
use Rattle.std.specs.List.{list_all}
use Rattle.std.proofs.lemmas.Bool.{cond-true, cond-false, and_parts, and_from, le-leb}
use Rattle.std.proofs.lemmas.Bool.Decides.{nat_tests}
use Rattle.std.proofs.lemmas.Fmt.{digits_decimal, digits_value-decimal, length-decimal-le, decimal_nonempty}
use Rattle.std.proofs.lemmas.Str.Parse.{IsNumeralModel, numerals_by_fold}
use Rattle.cnf_base.specs.Number.{is_digit, value_after, numeral_value, plain_number, negative, signed_value, signed_number}
use Rattle.cnf_base.specs.Text.{is_blank, has_bytes}
use Rattle.cnf_base.specs.ProofText.{is_delete_word}
use Rattle.cnf_base.proofs.TextLemmas.{is_word, none_pass}

numerals : IsNumeralModel (λ ds. list_all is_digit ds ≡ true) (value_after 0)
numerals = numerals_by_fold _ (search rules) value_after (search rules)

numeral_some : (bytes : List ℕ) → list_all is_digit bytes ≡ true → 0 < length bytes → numeral_value bytes ≡ Some (value_after 0 bytes)
numeral_some [] digits some = absurd (omega arith)
numeral_some (byte ∷ bytes) digits some = cond-true _ _ _ digits

pub numeral_value-decimal : (n : ℕ) → n < 2 ^ 64 → numeral_value (decimal n) ≡ Some n
numeral_value-decimal n small =
    numeral_some (decimal n) (digits_decimal numerals n small) (decimal_nonempty n small) ∙ ap Some (digits_value-decimal numerals n small)

short_decimal : (n : ℕ) → n < 2 ^ 64 → length (decimal n) ≤ 20
short_decimal n small = length-decimal-le 20 n (omega arith) (omega arith) small

pub plain_number-decimal : (n : ℕ) → n < 2 ^ 64 → plain_number (decimal n) ≡ Some n
plain_number-decimal n small =
    let short : length (decimal n) ≤ 64 = omega (arith, short_decimal n small) in
    cond-true _ _ _ (le-leb (length (decimal n)) 64 short) ∙ numeral_value-decimal n small

signed_value-digits : (bytes : List ℕ) → list_all is_digit bytes ≡ true → 0 < length bytes → signed_value bytes
    ≡ option_map pos (numeral_value bytes)
signed_value-digits [] digits some = refl
signed_value-digits (byte ∷ bytes) digits some =
    let sign : byte == 45 ≡ false = grind (arith, nat_tests, (and_parts (is_digit byte) (list_all is_digit bytes) digits).0) in
    cond-false _ _ _ sign

signed_value-signed_decimal : (z : ℤ) → nat_abs z < 2 ^ 64 → signed_value (signed_decimal z) ≡ Some z
signed_value-signed_decimal (pos n) small =
    signed_value-digits (decimal n) (digits_decimal numerals n small) (decimal_nonempty n small)
    ∙ ap (option_map pos) (numeral_value-decimal n small)
signed_value-signed_decimal (negsuc n) small = ap (option_and_then negative) (numeral_value-decimal (suc n) small)

short_signed : (z : ℤ) → nat_abs z < 2 ^ 64 → length (signed_decimal z) ≤ 64
short_signed (pos n) small = omega (arith, short_decimal n small)
short_signed (negsuc n) small = omega (arith, short_decimal (suc n) small)

pub signed_number-signed_decimal : (z : ℤ) → nat_abs z < 2 ^ 64 → signed_number (signed_decimal z) ≡ Some z
signed_number-signed_decimal z small =
    cond-true _ _ _ (le-leb (length (signed_decimal z)) 64 (short_signed z small)) ∙ signed_value-signed_decimal z small

-- Words.
digit_word : (byte : ℕ) → is_digit byte ≡ true → not (is_blank byte) ≡ true
digit_word byte digit = grind (arith, nat_tests)

digits_word : (bytes : List ℕ) → list_all is_digit bytes ≡ true → none_pass is_blank bytes ≡ true
digits_word [] digits = refl
digits_word (byte ∷ bytes) digits =
    let parts = and_parts (is_digit byte) (list_all is_digit bytes) digits in
    and_from _ _ (digit_word byte parts.0) (digits_word bytes parts.1)

has_some : (bytes : List ℕ) → 0 < length bytes → has_bytes bytes ≡ true
has_some [] some = absurd (omega arith)
has_some (byte ∷ bytes) some = refl

pub word_decimal : (n : ℕ) → n < 2 ^ 64 → is_word (decimal n) ≡ true
word_decimal n small = and_from _ _ (has_some (decimal n) (decimal_nonempty n small))
    (digits_word (decimal n) (digits_decimal numerals n small))

pub word_signed_decimal : (z : ℤ) → nat_abs z < 2 ^ 64 → is_word (signed_decimal z) ≡ true
word_signed_decimal (pos n) small = word_decimal n small
word_signed_decimal (negsuc n) small = digits_word (decimal (suc n)) (digits_decimal numerals (suc n) small)

-- the first byte of a numeral is a digit
pub first_digit : (n : ℕ) → n < 2 ^ 64 → (byte : ℕ) × (bytes : List ℕ) × (decimal n ≡ byte ∷ bytes) × (is_digit byte ≡ true)
first_digit n small = first (decimal n) (digits_decimal numerals n small) (decimal_nonempty n small)
  where
    first : (ds : List ℕ) → list_all is_digit ds ≡ true → 0 < length ds → (byte : ℕ) × (bytes : List ℕ) × (ds ≡ byte ∷ bytes)
        × (is_digit byte ≡ true)
    first [] digits some = absurd (omega arith)
    first (byte ∷ bytes) digits some = (byte, bytes, refl, (and_parts (is_digit byte) (list_all is_digit bytes) digits).0)

-- a number is not the word `d`
delete_word_digits : (bytes : List ℕ) → list_all is_digit bytes ≡ true → is_delete_word bytes ≡ false
delete_word_digits [] digits = refl
delete_word_digits (byte ∷ []) digits = grind (arith, nat_tests, (and_parts (is_digit byte) true digits).0)
delete_word_digits (byte ∷ more ∷ bytes) digits = refl

delete_word_minus : (bytes : List ℕ) → is_delete_word (45 ∷ bytes) ≡ false
delete_word_minus [] = refl
delete_word_minus (byte ∷ bytes) = refl

pub delete_word_signed : (z : ℤ) → nat_abs z < 2 ^ 64 → is_delete_word (signed_decimal z) ≡ false
delete_word_signed (pos n) small = delete_word_digits (decimal n) (digits_decimal numerals n small)
delete_word_signed (negsuc n) small = delete_word_minus (decimal (suc n))
