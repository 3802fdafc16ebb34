-- The line that is written for an order is read as that order.
use Rattle.std.proofs.Common.{◌≡◌, ℕ, zero, suc, ◌+◌, ◌-◌, ◌*◌, ◌^◌, ◌<◌, ◌≤◌, Bool, true, false, ◌&&◌, List, [], ◌∷◌, ◌++◌, map, flat_map}
use Rattle.std.proofs.Common.{length, None, Some, decimal, nat_le, nat_lt, refl, ap, sym, ◌∙◌, subst, append_assoc, append-nil}
use Rattle.std.proofs.Common.{length-append}
use Rattle.std.proofs.Common.{arith}
use Rattle.std.specs.Prelude.{nat_eq as eqb, slice_index_or, ◌||◌}
use Rattle.std.specs.List.{list_all, join_with_byte}
use Rattle.std.proofs.lemmas.Bool.{cond-false, and_parts, and_from, lt-ltb, le-ltb, le-leb, ltb-true, leb-true, eqb-true}
use Rattle.std.proofs.lemmas.Bool.Decides.{nat_tests}
use Rattle.std.proofs.lemmas.List.{get_or_append_left, get_or-append_right}
use Rattle.std.proofs.lemmas.Simd.{map-map}
use Rattle.std.proofs.lemmas.Fmt.{length-decimal-le}
use Rattle.cnf_base.specs.Limits.{max_vars, max_bytes}
use Rattle.cnf_base.specs.Number.{plain_number, is_short}
use Rattle.cnf_base.specs.Text.{Word, begins_with, words_of_row, row_of, tokens, end_line}
use Rattle.cnf_base.proofs.NumberLemmas.{word_decimal, first_digit}
use Rattle.cnf_base.proofs.TextLemmas.{is_word, words_of-join, join_one_line, rows-line}
use Rattle.text_scan.specs.Items.{items, the_end, words_then}
use Rattle.schedule_plan.specs.OrderText.{order as given_order, offence_of, stands_in, order_of, order_text}
use Rattle.solver_cli.specs.Answer.{IsOrderOf}
use Rattle.solver_cli.specs.MadeText.{order_line}

-- Numbers that are variables.
abbrev is_variable : ℕ → Bool
is_variable n = nat_lt 0 n && nat_le n max_vars

variable_above : (n : ℕ) → is_variable n ≡ true → 0 < n
variable_above n good = ltb-true 0 n (and_parts (nat_lt 0 n) (nat_le n max_vars) good).0

variable_small : (n : ℕ) → is_variable n ≡ true → n < 2 ^ 64
variable_small n good =
    let small = leb-true n max_vars (and_parts (nat_lt 0 n) (nat_le n max_vars) good).1 in
    omega (arith, small)

variable_short : (n : ℕ) → is_variable n ≡ true → length (decimal n) ≤ 7
variable_short n good =
    let small = leb-true n max_vars (and_parts (nat_lt 0 n) (nat_le n max_vars) good).1 in
    length-decimal-le 7 n (omega arith) (omega (arith, small)) (variable_small n good)

are_variables : (xs : List ℕ) → ((place : ℕ) → place < length xs → (0 < slice_index_or xs place 0)
    × (slice_index_or xs place 0 ≤ max_vars)) → list_all is_variable xs ≡ true
are_variables [] within = refl
are_variables (x ∷ xs) within =
    let first = within zero (omega arith) in
    and_from _ _ (and_from _ _ (lt-ltb 0 x first.0) (le-leb x max_vars first.1))
    (are_variables xs (λ place small. within (suc place) (omega (arith, small))))

-- The line's tokens.
abbrev word_of : ℕ → Word
word_of n = record { bytes = decimal n; line = 1 }

abbrev numbers_line : List ℕ → List ℕ
numbers_line xs = join_with_byte 32 (map decimal xs)

words_good : (xs : List ℕ) → list_all is_variable xs ≡ true → list_all is_word (map decimal xs) ≡ true
words_good [] good = refl
words_good (x ∷ xs) good =
    let parts = and_parts (is_variable x) (list_all is_variable xs) good in
    and_from _ _ (word_decimal x (variable_small x parts.0)) (words_good xs parts.1)

no_comment : (n : ℕ) → is_variable n ≡ true → begins_with 35 (decimal n) ≡ false
no_comment n good =
    let first = first_digit n (variable_small n good) in
    subst (λ bytes. begins_with 35 bytes ≡ false) (sym first.2) (grind (arith, nat_tests, first.3))

row_tokens : (xs : List ℕ) → list_all is_variable xs ≡ true → flat_map words_of_row (row_of 35 1 (map decimal xs)) ≡ map word_of xs
row_tokens [] good = refl
row_tokens (x ∷ xs) good =
    let parts = and_parts (is_variable x) (list_all is_variable xs) good in
    ap (flat_map words_of_row) (cond-false _ _ _ (no_comment x parts.0)) ∙ append-nil _
    ∙ map-map (λ (word : List ℕ). record { bytes = word; line = 1 }) decimal (x ∷ xs)

line_tokens : (xs : List ℕ) → list_all is_variable xs ≡ true → tokens 35 (order_line xs) ≡ map word_of xs
line_tokens xs good =
    let words = words_good xs good in
    ap (flat_map words_of_row) (rows-line 35 (numbers_line xs) (join_one_line (map decimal xs) words) [] refl
    ∙ ap (row_of 35 1) (words_of-join (map decimal xs) words)) ∙ row_tokens xs good

-- They are short, and so is the text.
words_short : (xs : List ℕ) → list_all is_variable xs ≡ true → list_all (λ word. is_short word.bytes) (map word_of xs) ≡ true
words_short [] good = refl
words_short (x ∷ xs) good =
    let parts = and_parts (is_variable x) (list_all is_variable xs) good in
    let short : length (decimal x) ≤ 64 = omega (arith, variable_short x parts.0) in
    and_from _ _ (le-leb (length (decimal x)) 64 short) (words_short xs parts.1)

line_short : (xs : List ℕ) → list_all is_variable xs ≡ true → length (numbers_line xs) ≤ 8 * length xs
line_short [] good = omega arith
line_short (x ∷ []) good =
    let parts = and_parts (is_variable x) true good in
    omega (arith, variable_short x parts.0)
line_short (x ∷ y ∷ ys) good =
    let parts = and_parts (is_variable x) (list_all is_variable (y ∷ ys)) good in
    omega (arith, variable_short x parts.0, line_short (y ∷ ys) parts.1, length-append (decimal x) (32 ∷ numbers_line (y ∷ ys)))

-- The tokens are judged in turn.
abbrev AreApart : List ℕ → Type 0
AreApart xs = (place other : ℕ) → place < length xs → other < length xs → slice_index_or xs place 0 ≡ slice_index_or xs other 0
    → place ≡ other

place_of : (n : ℕ) (xs : List ℕ) → stands_in n xs ≡ true → (place : ℕ) × (place < length xs) × (slice_index_or xs place 0 ≡ n)
place_of n [] h = cc
place_of n (x ∷ xs) h = elim (eqb n x) as (λ b. eqb n x ≡ b → (place : ℕ) × (place < length (x ∷ xs))
    × (slice_index_or (x ∷ xs) place 0 ≡ n)) [
      | true ↦ λ e. (zero, omega arith, sym (eqb-true n x e))
      | false ↦ λ e.
          let later = place_of n xs (sym (ap (λ b. b || stands_in n xs) e) ∙ h) in
          (suc later.0, omega (arith, later.1), later.2)
    ] refl

new_here : (n : ℕ) (before after : List ℕ) → AreApart (before ++ n ∷ after) → stands_in n before ≡ false
new_here n before after apart = elim (stands_in n before) as (λ b. stands_in n before ≡ b → b ≡ false) [
  | true ↦ λ e.
      let all = before ++ n ∷ after in
      let is = place_of n before e in
      let many : length all ≡ length before + suc (length after) = length-append before (n ∷ after) in
      let start : length before - length before ≡ zero = omega arith in
      let there : slice_index_or all is.0 0 ≡ n = get_or_append_left before (n ∷ after) 0 is.0 is.1 ∙ is.2 in
      let here : slice_index_or all (length before) 0 ≡ n =
      get_or-append_right before (n ∷ after) (length before) (length before) 0 refl (omega arith)
      ∙ ap (λ (place : ℕ). slice_index_or (n ∷ after) place 0) start in
      let same = apart is.0 (length before) (omega (arith, is.1, many)) (omega (arith, many)) (there ∙ sym here) in
      absurd (omega (arith, is.1, same))
  | false ↦ λ e. refl
] refl

passes : (n vars : ℕ) (before : List ℕ) → 0 < n → n ≤ vars → stands_in n before ≡ false → offence_of (Some n) vars before ≡ None
passes n vars before above within fresh =
    let zero_not : eqb n 0 ≡ false = grind (arith, nat_tests) in
    rw (zero_not, le-ltb vars n within, fresh) refl

module _ (plain : (n : ℕ) → n < 2 ^ 64 → plain_number (decimal n) ≡ Some n) (vars : ℕ) where
  reads : (line : ℕ) (before rest : List ℕ) → list_all is_variable rest ≡ true
      → ((place : ℕ) → place < length rest → slice_index_or rest place 0 ≤ vars) → AreApart (before ++ rest) → length (before ++ rest) ≡ vars
      → order_of (words_then (map word_of rest) (the_end line)) vars before ≡ given_order (before ++ rest)
  reads line before [] good within apart count =
      let same : length (before ++ []) ≡ length before = ap length (append-nil before) in
      cond-false _ _ _ (le-ltb (length before) vars (omega (arith, count, same))) ∙ ap given_order (sym (append-nil before))
  reads line before (n ∷ rest) good within apart count =
      let parts = and_parts (is_variable n) (list_all is_variable rest) good in
      let joined : (before ++ n ∷ []) ++ rest ≡ before ++ n ∷ rest = append_assoc before (n ∷ []) rest in
      let number : plain_number (decimal n) ≡ Some n = plain n (variable_small n parts.0) in
      let none : offence_of (Some n) vars before ≡ None =
      passes n vars before (variable_above n parts.0) (within zero (omega arith)) (new_here n before rest apart) in
      rw (number, none) (reads line (before ++ n ∷ []) rest parts.1 (λ place small. within (suc place) (omega (arith, small)))
      (subst AreApart (sym joined) apart) (ap length joined ∙ count) ∙ ap given_order joined)

pub read_back : ((n : ℕ) → n < 2 ^ 64 → plain_number (decimal n) ≡ Some n)
    → ((comment limit : ℕ) (bytes : List ℕ) → length bytes ≤ limit → list_all (λ word. is_short word.bytes) (tokens comment bytes) ≡ true
    → items comment limit bytes ≡ words_then (tokens comment bytes) (the_end (end_line bytes)))
    → (vars : ℕ) (order : List ℕ) → vars ≤ max_vars → IsOrderOf vars order → order_text vars (order_line order) ≡ given_order order
read_back plain short vars order few is =
    let within = λ (place : ℕ) (small : place < length order). (is.0.within place small).1 in
    let good : list_all is_variable order ≡ true =
    are_variables order (λ place small. ((is.0.within place small).0, omega (arith, (is.0.within place small).1, is.1, few))) in
    let all : tokens 35 (order_line order) ≡ map word_of order = line_tokens order good in
    let fits : length (order_line order) ≤ max_bytes =
    omega (arith, line_short order good, length-append (numbers_line order) (10 ∷ []), is.1, few) in
    let given : items 35 max_bytes (order_line order) ≡ words_then (tokens 35 (order_line order)) (the_end (end_line (order_line order))) =
    short 35 max_bytes (order_line order) fits
    (ap (list_all (λ (word : Word). is_short word.bytes)) all ∙ words_short order good) in
    ap (λ its. order_of its vars []) (given ∙ ap (λ words. words_then words (the_end (end_line (order_line order)))) all)
    ∙ reads plain vars (end_line (order_line order)) [] order good (λ place small. omega (arith, within place small, is.1)) is.0.apart is.1
