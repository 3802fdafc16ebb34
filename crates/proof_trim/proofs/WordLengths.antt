-- How many bytes the line of a step takes: no more than the words that spell the step, each with a byte behind it.
use Rattle.std.proofs.Common.{◌≡◌, ℕ, zero, suc, ◌+◌, ◌^◌, ◌<◌, ◌≤◌, Bool, true, false, ◌==◌, ℤ, pos, negsuc, neg_ℤ, nat_abs, List, [], ◌∷◌}
use Rattle.std.proofs.Common.{◌++◌, length, map, Option, None, Some, option_map, option_and_then, decimal, refl, sym, ap, ◌∙◌, subst, arith}
use Rattle.std.proofs.Common.{rules, length-append, eqb-true, if◌then◌else◌, append_assoc}
use Rattle.std.specs.Prelude.{◌&&◌, nat_le}
use Rattle.std.specs.Fmt.{signed_decimal}
use Rattle.std.specs.List.{list_all, flat_map, join_with_byte}
use Rattle.std.proofs.lemmas.Bool.{and_parts, leb-true}
use Rattle.std.proofs.lemmas.Fmt.{length-decimal-le_wide}
use Rattle.std.proofs.lemmas.List.{map-append}
use Rattle.std.proofs.lemmas.Str.Parse.{IsNumeralModel, numerals_by_fold, digits_value_short}
use Rattle.cnf_base.specs.declared.list.Group.{Group}
use Rattle.cnf_base.specs.declared.step.Step.{Step}
use Rattle.cnf_base.specs.declared.step.Step.TheVariants.{Add, Delete}
use Rattle.cnf_base.specs.Truth.{is_literal_of}
use Rattle.cnf_base.specs.Number.{is_digit, is_short, value_after, numeral_value, plain_number, negative, signed_value, signed_number}
use Rattle.cnf_base.specs.ProofText.{all_given, split_at, in_front, is_empty, is_zero, is_id, is_hint, given_if, hints_before_group, groups_of}
use Rattle.cnf_base.specs.ProofText.{addition_of, addition_from, deletion_of, is_delete_word, max_id, max_literal, step_with, step_of}
use Rattle.cnf_base.specs.ProofText.{group_numbers, step_words, line_of_step}

-- the bytes of words, with one behind each
abbrev pub bytes_in : List (List ℕ) → ℕ
bytes_in [] = 0
bytes_in (word ∷ words) = (length word + 1) + bytes_in words

pub bytes_in-append : (words more : List (List ℕ)) → bytes_in (words ++ more) ≡ bytes_in words + bytes_in more
bytes_in-append [] more = omega arith
bytes_in-append (word ∷ words) more = omega (arith, bytes_in-append words more)

joined : (word : List ℕ) (words : List (List ℕ)) → length (join_with_byte 32 (word ∷ words)) + 1 ≡ bytes_in (word ∷ words)
joined word [] = omega arith
joined word (next ∷ words) =
    let rest : length (join_with_byte 32 (next ∷ words)) + 1 ≡ bytes_in (next ∷ words) = joined next words in
    let both : length (word ++ 32 ∷ join_with_byte 32 (next ∷ words)) ≡ length word + suc (length (join_with_byte 32 (next ∷ words))) =
    length-append word (32 ∷ join_with_byte 32 (next ∷ words)) in
    omega arith

ended : (words : List (List ℕ)) → 0 < length words → length (join_with_byte 32 words ++ 10 ∷ []) ≡ bytes_in words
ended [] some = absurd (omega arith)
ended (word ∷ words) some = length-append (join_with_byte 32 (word ∷ words)) (10 ∷ []) ∙ joined word words

pub length-line : (step : Step) → length (line_of_step step) ≡ bytes_in (step_words step)
length-line (Add id literals hints groups) = ended (step_words (Add id literals hints groups)) (omega arith)
length-line (Delete id ids) = ended (step_words (Delete id ids)) (omega arith)

-- A number is written with no more bytes than it was read from.
numerals : IsNumeralModel (λ ds. list_all is_digit ds ≡ true) (value_after 0)
numerals = numerals_by_fold _ (search rules) value_after (search rules)

digits_length : (bytes : List ℕ) → list_all is_digit bytes ≡ true → 0 < length bytes → length bytes ≤ 64
    → length (decimal (value_after 0 bytes)) ≤ length bytes
digits_length bytes digits some short =
    length-decimal-le_wide (length bytes) (value_after 0 bytes) some
    (digits_value_short numerals bytes (length bytes) digits (omega arith))
    (digits_value_short numerals bytes 64 digits short)

if_some : {X : Type 0} (b : Bool) (x y : X) → (if b then Some x else None) ≡ Some y → (b ≡ true) × (x ≡ y)
if_some true x y e = (refl, same e) where
  same : {X : Type 0} {x y : X} → Some x ≡ Some y → x ≡ y
  same e = cc
if_some false x y e = cc

if_given : {X : Type 0} (b : Bool) (o : Option X) (y : X) → (if b then o else None) ≡ Some y → (b ≡ true) × (o ≡ Some y)
if_given true o y e = (refl, e)
if_given false o y e = cc

numeral_length : (bytes : List ℕ) (n : ℕ) → length bytes ≤ 64 → numeral_value bytes ≡ Some n → length (decimal n) ≤ length bytes
numeral_length [] n short is = cc
numeral_length (byte ∷ bytes) n short is =
    let parts = if_some (list_all is_digit (byte ∷ bytes)) (value_after 0 (byte ∷ bytes)) n is in
    subst (λ (k : ℕ). length (decimal k) ≤ length (byte ∷ bytes)) parts.1
    (digits_length (byte ∷ bytes) parts.0 (omega arith) short)

pub plain-length : (word : List ℕ) (n : ℕ) → plain_number word ≡ Some n → length (decimal n) ≤ length word
plain-length word n is =
    let parts = if_given (is_short word) (numeral_value word) n is in
    numeral_length word n (leb-true (length word) 64 parts.0) parts.1

negative_length : (bytes : List ℕ) (z : ℤ) → length bytes ≤ 64 → option_and_then negative (numeral_value bytes) ≡ Some z
    → length (signed_decimal z) ≤ length bytes + 1
negative_length bytes z short is =
    elim (numeral_value bytes) as (λ o. numeral_value bytes ≡ o → option_and_then negative o ≡ Some z
    → length (signed_decimal z) ≤ length bytes + 1) [
      | None ↦ λ _ e. cc
      | Some zero ↦ λ _ e. cc
      | Some (suc n) ↦ λ value e.
          let own : length (decimal (suc n)) ≤ length bytes = numeral_length bytes (suc n) short value in
          subst (λ (y : ℤ). length (signed_decimal y) ≤ length bytes + 1) (same e) (omega (arith, own))
    ] refl is
  where
    same : {x y : ℤ} → ◌≡◌ {A = Option ℤ} (Some x) (Some y) → x ≡ y
    same e = cc

positive_length : (bytes : List ℕ) (z : ℤ) → length bytes ≤ 64 → option_map pos (numeral_value bytes) ≡ Some z
    → length (signed_decimal z) ≤ length bytes
positive_length bytes z short is =
    elim (numeral_value bytes) as (λ o. numeral_value bytes ≡ o → option_map pos o ≡ Some z → length (signed_decimal z) ≤ length bytes) [
      | None ↦ λ _ e. cc
      | Some n ↦ λ value e.
          subst (λ (y : ℤ). length (signed_decimal y) ≤ length bytes) (same e) (numeral_length bytes n short value)
    ] refl is
  where
    same : {x y : ℤ} → ◌≡◌ {A = Option ℤ} (Some x) (Some y) → x ≡ y
    same e = cc

signed_value_length : (word : List ℕ) (z : ℤ) → length word ≤ 64 → signed_value word ≡ Some z → length (signed_decimal z) ≤ length word
signed_value_length [] z short is = cc
signed_value_length (byte ∷ bytes) z short is =
    elim (byte == 45) as (λ b. (if b then option_and_then negative (numeral_value bytes) else option_map pos (numeral_value (byte ∷ bytes)))
    ≡ Some z → length (signed_decimal z) ≤ length (byte ∷ bytes)) [
      | true ↦ λ e. omega (arith, negative_length bytes z (omega (arith, short)) e)
      | false ↦ λ e. positive_length (byte ∷ bytes) z short e
    ] is

pub signed-length : (word : List ℕ) (z : ℤ) → signed_number word ≡ Some z → length (signed_decimal z) ≤ length word
signed-length word z is =
    let parts = if_given (is_short word) (signed_value word) z is in
    signed_value_length word z (leb-true (length word) 64 parts.0) parts.1

-- So are several.
module _ {X : Type 0} (read : List ℕ → Option X) (write : X → List ℕ)
    (shorter : (word : List ℕ) (x : X) → read word ≡ Some x → length (write x) ≤ length word) where
  same_lists : {xs ys : List X} → ◌≡◌ {A = Option (List X)} (Some xs) (Some ys) → xs ≡ ys
  same_lists e = cc

  pub all_shorter : (words : List (List ℕ)) (xs : List X) → all_given (map read words) ≡ Some xs → bytes_in (map write xs) ≤ bytes_in words
  all_shorter [] xs is = subst (λ (l : List X). bytes_in (map write l) ≤ 0) (same_lists is) (omega arith)
  all_shorter (word ∷ words) xs is =
      elim (read word) as (λ o. read word ≡ o → all_given (o ∷ map read words) ≡ Some xs
      → bytes_in (map write xs) ≤ bytes_in (word ∷ words)) [
        | None ↦ λ _ e. cc
        | Some x ↦ λ one e.
            elim (all_given (map read words)) as (λ o. all_given (map read words) ≡ o → option_map (λ l. x ∷ l) o ≡ Some xs
            → bytes_in (map write xs) ≤ bytes_in (word ∷ words)) [
              | None ↦ λ _ d. cc
              | Some rest ↦ λ more d.
                  let front : length (write x) ≤ length word = shorter word x one in
                  let behind : bytes_in (map write rest) ≤ bytes_in words = all_shorter words rest more in
                  subst (λ (l : List X). bytes_in (map write l) ≤ bytes_in (word ∷ words)) (same_lists d) (omega (arith, front, behind))
            ] refl e
      ] refl is
