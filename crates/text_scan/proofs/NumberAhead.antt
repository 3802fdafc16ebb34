-- A number at the front of some bytes is what the token there spells.
use Rattle.std.proofs.Common.{◌≡◌, ℕ, zero, suc, ◌+◌, ◌-◌, ◌*◌, ◌<◌, ◌≤◌, true, false, ℤ, pos, negsuc, SFits, w64, to_z, of_z, List, []}
use Rattle.std.proofs.Common.{◌∷◌, ◌++◌, length, get_or, take, drop, refl, sym, ◌∙◌, ap, arith, length-take, length-drop, Some}
use Rattle.std.proofs.lemmas.Int.{to_z-of_z}
use Rattle.std.specs.Prelude.{Option, None, IfSome, ◌≢◌, ◌&&◌, neg_ℤ, nat_abs, nat_le, ◌==◌}
use Rattle.std.specs.List.{list_all, list_any}
use Rattle.std.proofs.lemmas.Bool.Decides.{nat_tests}
use Rattle.std.proofs.lemmas.List.{take_more, take_all}
use Rattle.std.proofs.lemmas.List.Folds.{list_all_more}
use Rattle.cnf_base.specs.Number.{is_digit, value_after, signed_value}
use Rattle.cnf_base.specs.Text.{is_blank}
use Rattle.text_scan.specs.Block.{IsNumeralAtFront, IsNumberAtFront}
use Rattle.text_scan.specs.Capped.{cap}
use Rattle.text_scan.specs.Scan.{Scan, TookNumber}

value_after-snoc : (digits : List ℕ) (value digit : ℕ) → value_after value (digits ++ digit ∷ []) ≡ 10 * value_after value digits
    + (digit - 48)
value_after-snoc [] value digit = refl
value_after-snoc (first ∷ digits) value digit = value_after-snoc digits (10 * value + (first - 48)) digit

-- one more digit at the front
pub digits_more : (bytes : List ℕ) (len : ℕ) → len < length bytes → list_all is_digit (take len bytes) ≡ true
    → is_digit (get_or bytes len 0) ≡ true → list_all is_digit (take (len + 1) bytes) ≡ true
digits_more bytes len within all one = list_all_more is_digit bytes len 0 within ∙ rw (all, one) refl

pub value_more : (bytes : List ℕ) (len value : ℕ) → len < length bytes → value ≡ value_after 0 (take len bytes) → 10 * value
    + (get_or bytes len 0 - 48) ≡ value_after 0 (take (len + 1) bytes)
value_more bytes len value within same =
    ap (λ n. 10 * n + (get_or bytes len 0 - 48)) same
    ∙ sym (value_after-snoc (take len bytes) 0 (get_or bytes len 0))
    ∙ ap (value_after 0) (sym (take_more bytes len 0 within))

digit_or_blank : (byte : ℕ) → is_digit byte ≡ true → is_blank byte ≡ false
digit_or_blank byte digit = grind (arith, nat_tests)

digit_or_minus : (byte : ℕ) → is_digit byte ≡ true → (byte == 45) ≡ false
digit_or_minus byte digit = grind (arith, nat_tests)

first_digit : (byte : ℕ) (bytes : List ℕ) → list_all is_digit (byte ∷ bytes) ≡ true → is_digit byte ≡ true
first_digit byte bytes all = elim (is_digit byte) as (λ b. (b && list_all is_digit bytes) ≡ true → b
    ≡ true) [ true ↦ λ _. refl | false ↦ λ h. h ] all

other_digits : (byte : ℕ) (bytes : List ℕ) → list_all is_digit (byte ∷ bytes) ≡ true → list_all is_digit bytes ≡ true
other_digits byte bytes all = elim (is_digit byte) as (λ b. (b && list_all is_digit bytes) ≡ true → list_all is_digit bytes
    ≡ true) [ true ↦ λ h. h | false ↦ λ h. cc ] all

digits_no_blank : (bytes : List ℕ) → list_all is_digit bytes ≡ true → list_any is_blank bytes ≡ false
digits_no_blank [] all = refl
digits_no_blank (byte ∷ bytes) all = rw (digit_or_blank byte (first_digit byte bytes all))
    (digits_no_blank bytes (other_digits byte bytes all))

-- digits alone
plain_value : (bytes : List ℕ) → 0 < length bytes → list_all is_digit bytes ≡ true → signed_value bytes ≡ Some (pos (value_after 0 bytes))
plain_value [] some all = absurd (omega arith)
plain_value (byte ∷ bytes) some all = rw (digit_or_minus byte (first_digit byte bytes all), all) refl

-- behind a minus sign
minus_value : (bytes : List ℕ) (value : ℕ) → 0 < length bytes → list_all is_digit bytes ≡ true → value_after 0 bytes ≡ suc value
    → signed_value (45 ∷ bytes) ≡ Some (neg_ℤ (pos (suc value)))
minus_value [] value some all is = absurd (omega arith)
minus_value (byte ∷ bytes) value some all is = rw (all, is) refl

short : (bytes : List ℕ) (len : ℕ) → len ≤ 64 → nat_le (length (take len bytes)) 64 ≡ true
short bytes len fits = let size = length-take len bytes in grind (arith, nat_tests)

pub plain_at_front : (bytes : List ℕ) (value len : ℕ) → IsNumeralAtFront bytes value len → IsNumberAtFront bytes (pos value) len
plain_at_front bytes value len is =
    let size : length (take len bytes) ≡ len = length-take len bytes ∙ omega (arith, is.within) in
    let fits = short bytes len (omega (arith, is.short)) in
    record {
      letters = digits_no_blank (take len bytes) is.digits;
      short = omega (arith, is.short);
      within = is.within;
      blank = is.blank;
      number_is = rw fits (plain_value (take len bytes) (omega (arith, is.some, size)) is.digits
          ∙ ap (λ n. Some (pos n)) (sym is.value_is));
      small = omega (arith, is.small);
    }

pub minus_at_front : (bytes : List ℕ) (value len : ℕ) → IsNumeralAtFront bytes (suc value) len
    → IsNumberAtFront (45 ∷ bytes) (neg_ℤ (pos (suc value))) (len + 1)
minus_at_front bytes value len is =
    let size : length (take len bytes) ≡ len = length-take len bytes ∙ omega (arith, is.within) in
    let e : len + 1 ≡ suc len = omega arith in
    let fits = short (45 ∷ bytes) (suc len) (omega (arith, is.short)) in
    rw e (record {
      letters = digits_no_blank (take len bytes) is.digits;
      short = omega (arith, is.short);
      within = omega (arith, is.within);
      blank = is.blank;
      number_is = rw fits (minus_value (take len bytes) value (omega (arith, is.some, size)) is.digits (sym is.value_is));
      small = omega (arith, is.small);
    })

-- a small number has its place in 64 bits
pub small_fits : (number : ℤ) → nat_abs number ≤ cap → SFits w64 number
small_fits (pos n) small = record { sfits = omega (arith, small) }
small_fits (negsuc n) small = record { sfits = omega (arith, small) }

pub first_minus : (bytes : List ℕ) → 0 < length bytes → get_or bytes 0 0 ≡ 45 → bytes ≡ 45 ∷ drop 1 bytes
first_minus [] some is = absurd (omega arith)
first_minus (byte ∷ bytes) some is = ap (λ b. b ∷ bytes) is

-- a minus sign and a value that isn't zero
pub negative_at_front : (bytes : List ℕ) (value len : ℕ) (number : ℤ) → 0 < length bytes → get_or bytes 0 0 ≡ 45
    → IsNumeralAtFront (drop 1 bytes) value len
    → (value ≡ 0 → ⊥) → (0 < value → number ≡ neg_ℤ (pos value)) → IsNumberAtFront bytes (to_z w64 (of_z w64 number)) (len + 1)
negative_at_front bytes zero len number some minus is not_zero same = absurd (not_zero refl)
negative_at_front bytes (suc value) len number some minus is not_zero same =
    let found = minus_at_front (drop 1 bytes) value len is in
    let number_is : number ≡ neg_ℤ (pos (suc value)) = same (omega arith) in
    let whole : bytes ≡ 45 ∷ drop 1 bytes = first_minus bytes some minus in
    rw (number_is, to_z-of_z w64 (neg_ℤ (pos (suc value))) (small_fits (neg_ℤ (pos (suc value))) found.small), whole) found

-- without a minus sign
pub plain_sign : (bytes : List ℕ) (start value len : ℕ) (number : ℤ) → start ≡ 0
    → IsNumeralAtFront (take (length bytes - start) (drop start bytes)) value len → Some number ≡ Some (pos value)
    → IsNumberAtFront bytes (to_z w64 (of_z w64 number)) (start + len)
plain_sign bytes start value len number none is same =
    let rest : take (length bytes - start) (drop start bytes) ≡ bytes =
    rw none (take_all (length bytes - 0) bytes (omega arith)) in
    let found = plain_at_front bytes value len (rw rest at is) in
    let number_is : number ≡ pos value = cc in
    let size : start + len ≡ len = omega (arith, none) in
    rw (size, number_is, to_z-of_z w64 (pos value) (small_fits (pos value) found.small)) found

-- with one
pub minus_sign : (bytes : List ℕ) (start value len : ℕ) (number : ℤ) → 0 < length bytes → start ≡ 1 → (get_or bytes 0 0 == 45) ≡ true
    → IsNumeralAtFront (take (length bytes - start) (drop start bytes)) value len → (value ≡ 0 → Some number ≡ None)
    → (0 < value → Some number ≡ Some (neg_ℤ (pos value))) → IsNumberAtFront bytes (to_z w64 (of_z w64 number)) (start + len)
minus_sign bytes start value len number some one is_minus is no_zero other =
    let minus : get_or bytes 0 0 ≡ 45 = grind (arith, nat_tests) in
    let rest : take (length bytes - start) (drop start bytes) ≡ drop 1 bytes =
    rw one (take_all (length bytes - 1) (drop 1 bytes) (omega (arith, length-drop 1 bytes))) in
    let size : start + len ≡ len + 1 = omega (arith, one) in
    rw size (negative_at_front bytes value len number some minus (rw rest at is) (λ none. let e = no_zero none in cc)
    (λ more. let e = other more in cc))

-- the line of a number that was taken is that of the scanner
pub took_line : (result : Option ℤ) (old new : Scan) → IfSome result (λ number. TookNumber number old.lex.line old new)
    → IfSome result (λ number. TookNumber number new.line old new)
took_line None old new took = tt
took_line (Some number) old new took = record {
  word = took.word;
  number_is = took.number_is;
  small = took.small;
  line = sym took.gave.line;
  reading = took.reading;
  status = took.status;
  gives = took.gives;
  so_far = took.so_far;
  gave = took.gave;
}

pub took_past : (result : Option ℤ) (old new : Scan) (line : ℕ) → (old.lex.line ≡ line → ⊥)
    → IfSome result (λ number. TookNumber number old.lex.line old new) → IfSome result (λ number. new.line ≢ line)
took_past None old new line other took = tt
took_past (Some number) old new line other took = λ same. other (sym took.line ∙ sym took.gave.line ∙ same)
