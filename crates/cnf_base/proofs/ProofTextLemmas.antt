-- The line that is written for a step spells the step.
use Rattle.std.proofs.Common.{◌≡◌, ℕ, zero, suc, ◌+◌, ◌^◌, ◌<◌, Bool, true, false, not, ◌&&◌, ◌==◌, List, [], ◌∷◌, ◌++◌, map, flat_map}
use Rattle.std.proofs.Common.{length, ℤ, pos, negsuc, neg_ℤ, nat_abs, Option, Some, None, IfSome, option_map, option_and_then, decimal}
use Rattle.std.proofs.Common.{nat_le, nat_lt, slice_index, refl, ap, sym, subst, ◌∙◌, append_assoc, append-nil, length-append, arith}
use Rattle.std.specs.Fmt.{signed_decimal}
use Rattle.std.specs.List.{list_all, join_with_byte}
use Rattle.std.proofs.lemmas.Bool.{cond-true, cond-false, cond_both, and_parts, and_from, not-true, leb-true, ltb-true}
use Rattle.std.proofs.lemmas.Bool.Decides.{nat_tests}
use Rattle.std.proofs.lemmas.List.{map-append, same_from_push}
use Rattle.std.proofs.lemmas.List.Folds.{list_all-append, list_all-map}
use Rattle.std.proofs.lemmas.Fmt.{decimal_digit}
use Rattle.cnf_base.specs.declared.step.Step.{Step}
use Rattle.cnf_base.specs.declared.step.Step.TheVariants.{Add, Delete}
use Rattle.cnf_base.specs.declared.list.Group.{Group}
use Rattle.cnf_base.specs.Truth.{is_literal_of}
use Rattle.cnf_base.specs.Number.{is_digit, plain_number, signed_number}
use Rattle.cnf_base.specs.Text.{is_line_end, begins_with, words_of, row_of, rows, line_ends}
use Rattle.cnf_base.specs.ProofText.{max_id, max_literal, is_id, is_hint, all_given, in_front, split_at, is_empty, is_zero, given_if}
use Rattle.cnf_base.specs.ProofText.{hints_before_group, groups_of, addition_of, addition_from, deletion_of, is_delete_word, step_with}
use Rattle.cnf_base.specs.ProofText.{step_of, line_of_row, proof_lines, group_numbers, step_words, line_of_step, is_group, is_printable}
use Rattle.cnf_base.specs.ProofText.{are_whole_lines}
use Rattle.cnf_base.proofs.TextLemmas.{is_word, none_pass, words_of-join, join_one_line, rows-line, line_ends-line, line_ends_none}
use Rattle.cnf_base.proofs.TextLemmas.{whole_lines-append}
use Rattle.cnf_base.proofs.NumberLemmas.{plain_number-decimal, signed_number-signed_decimal, word_decimal, word_signed_decimal}
use Rattle.cnf_base.proofs.NumberLemmas.{delete_word_signed, first_digit}

and_four : (a b c d : Bool) → a ≡ true → b ≡ true → c ≡ true → d ≡ true → (a && b && c && d) ≡ true
and_four a b c d ha hb hc hd = rw (ha, hb, hc, hd)

four_parts : (a b c d : Bool) → (a && b && c && d) ≡ true → (a ≡ true) × (b ≡ true) × (c ≡ true) × (d ≡ true)
four_parts a b c d h = grind arith

list_all_along : {X : Type 0} (p q : X → Bool) → ((x : X) → p x ≡ true → q x ≡ true) → (xs : List X) → list_all p xs ≡ true → list_all q xs
    ≡ true
list_all_along p q along [] h = refl
list_all_along p q along (x ∷ xs) h =
    let parts = and_parts (p x) (list_all p xs) h in
    and_from _ _ (along x parts.0) (list_all_along p q along xs parts.1)

split_at-append : {X : Type 0} (test : X → Bool) (before : List X) (x : X) (after : List X) → list_all (λ y. not (test y)) before ≡ true
    → test x ≡ true → split_at test (before ++ x ∷ after) ≡ Some (before, after)
split_at-append test [] x after none here = cond-true _ _ _ here
split_at-append test (y ∷ before) x after none here =
    let parts = and_parts (not (test y)) (list_all (λ z. not (test z)) before) none in
    cond-false _ _ _ (not-true (test y) parts.0) ∙ ap (option_map (in_front y)) (split_at-append test before x after parts.1 here)

-- What is read of printed numbers.
abbrev is_small : ℤ → Bool
is_small z = nat_le (nat_abs z) max_id

small_below : (n : ℕ) → nat_le n max_id ≡ true → n < 2 ^ 64
small_below n small = omega (arith, leb-true n max_id small)

id_above : (n : ℕ) → is_id n ≡ true → 0 < n
id_above n id = ltb-true 0 n (and_parts (nat_lt 0 n) (nat_le n max_id) id).0

id_small : (n : ℕ) → is_id n ≡ true → nat_le n max_id ≡ true
id_small n id = (and_parts (nat_lt 0 n) (nat_le n max_id) id).1

above_not_zero : (n : ℕ) → 0 < n → not (n == 0) ≡ true
above_not_zero n above = grind (arith, nat_tests)

signed_numbers : (zs : List ℤ) → list_all is_small zs ≡ true → all_given (map signed_number (map signed_decimal zs)) ≡ Some zs
signed_numbers [] small = refl
signed_numbers (z ∷ zs) small =
    let parts = and_parts (is_small z) (list_all is_small zs) small in
    rw (signed_number-signed_decimal z (small_below (nat_abs z) parts.0), signed_numbers zs parts.1)

plain_numbers : (ns : List ℕ) → list_all (λ n. nat_le n max_id) ns ≡ true → all_given (map plain_number (map decimal ns)) ≡ Some ns
plain_numbers [] small = refl
plain_numbers (n ∷ ns) small =
    let parts = and_parts (nat_le n max_id) (list_all (λ n. nat_le n max_id) ns) small in
    rw (plain_number-decimal n (small_below n parts.0), plain_numbers ns parts.1)

step_with-numbers : (id : ℕ) (zs : List ℤ) → 0 < length zs → list_all is_small zs ≡ true → step_with id (map signed_decimal zs)
    ≡ option_and_then (addition_from id) (split_at is_zero zs)
step_with-numbers id [] some small = absurd (omega arith)
step_with-numbers id (z ∷ zs) some small =
    let parts = and_parts (is_small z) (list_all is_small zs) small in
    cond-false _ _ _ (delete_word_signed z (small_below (nat_abs z) parts.0))
    ∙ ap (option_and_then (λ numbers. option_and_then (addition_from id) (split_at is_zero numbers))) (signed_numbers (z ∷ zs) small)

-- Hints and groups.
abbrev hint_numbers : List ℕ → List Group → List ℤ
hint_numbers hints groups = map pos hints ++ flat_map group_numbers groups

hints_before-positive : (hints : List ℕ) (more : List ℤ) → hints_before_group (map pos hints ++ more) ≡ hints ++ hints_before_group more
hints_before-positive [] more = refl
hints_before-positive (n ∷ hints) more = ap (λ ns. n ∷ ns) (hints_before-positive hints more)

groups_of-positive : (hints : List ℕ) (more : List ℤ) → groups_of (map pos hints ++ more) ≡ groups_of more
groups_of-positive [] more = refl
groups_of-positive (n ∷ hints) more = groups_of-positive hints more

hints_before-negative : (n : ℕ) (more : List ℤ) → 0 < n → hints_before_group (neg_ℤ (pos n) ∷ more) ≡ []
hints_before-negative zero more above = absurd (omega arith)
hints_before-negative (suc n) more above = refl

groups_of-negative : (n : ℕ) (more : List ℤ) → 0 < n → groups_of (neg_ℤ (pos n) ∷ more) ≡ record { id = n; hints = hints_before_group more }
    ∷ groups_of more
groups_of-negative zero more above = absurd (omega arith)
groups_of-negative (suc n) more above = refl

hints_before-groups : (groups : List Group) → list_all is_group groups ≡ true → hints_before_group (flat_map group_numbers groups) ≡ []
hints_before-groups [] good = refl
hints_before-groups (group ∷ groups) good =
    let parts = and_parts (is_group group) (list_all is_group groups) good in
    let id = and_parts (is_id group.id) (list_all is_id group.hints) parts.0 in
    hints_before-negative group.id (map pos group.hints ++ flat_map group_numbers groups) (id_above group.id id.0)

groups_of-groups : (groups : List Group) → list_all is_group groups ≡ true → groups_of (flat_map group_numbers groups) ≡ groups
groups_of-groups [] good = refl
groups_of-groups (group ∷ groups) good =
    let parts = and_parts (is_group group) (list_all is_group groups) good in
    let id = and_parts (is_id group.id) (list_all is_id group.hints) parts.0 in
    let more = flat_map group_numbers groups in
    let hints : hints_before_group (map pos group.hints ++ more) ≡ group.hints =
    hints_before-positive group.hints more ∙ ap (λ ns. group.hints ++ ns) (hints_before-groups groups parts.1) ∙ append-nil group.hints in
    groups_of-negative group.id (map pos group.hints ++ more) (id_above group.id id.0)
    ∙ rw (hints, groups_of-positive group.hints more, groups_of-groups groups parts.1)

hint_negative : (n : ℕ) → is_id n ≡ true → is_hint (neg_ℤ (pos n)) ≡ true
hint_negative zero id = id
hint_negative (suc n) id = id

hints_positive : (hints : List ℕ) → list_all is_id hints ≡ true → list_all is_hint (map pos hints) ≡ true
hints_positive hints good = list_all-map is_hint pos hints ∙ good

hints_groups : (groups : List Group) → list_all is_group groups ≡ true → list_all is_hint (flat_map group_numbers groups) ≡ true
hints_groups [] good = refl
hints_groups (group ∷ groups) good =
    let parts = and_parts (is_group group) (list_all is_group groups) good in
    let id = and_parts (is_id group.id) (list_all is_id group.hints) parts.0 in
    list_all-append is_hint (group_numbers group) (flat_map group_numbers groups)
    ∙ and_from _ _ (and_from _ _ (hint_negative group.id id.0) (hints_positive group.hints id.1)) (hints_groups groups parts.1)

hint_numbers_good : (hints : List ℕ) (groups : List Group) → list_all is_id hints ≡ true → list_all is_group groups ≡ true
    → list_all is_hint (hint_numbers hints groups) ≡ true
hint_numbers_good hints groups good group =
    list_all-append is_hint (map pos hints) (flat_map group_numbers groups)
    ∙ and_from _ _ (hints_positive hints good) (hints_groups groups group)

-- Additions: the words behind the identifier are those of one list of numbers.
abbrev addition_numbers : List ℤ → List ℤ → List ℤ
addition_numbers literals hints = literals ++ pos 0 ∷ (hints ++ pos 0 ∷ [])

zero_word : decimal 0 ≡ 48 ∷ []
zero_word = decimal_digit 0 (omega arith)

step_words-Add : (id : ℕ) (literals : List ℤ) (hints : List ℕ) (groups : List Group) → step_words (Add id literals hints groups)
    ≡ decimal id ∷ map signed_decimal (addition_numbers literals (hint_numbers hints groups))
step_words-Add id literals hints groups =
    let numbers = hint_numbers hints groups in
    rw (map-append signed_decimal literals (pos 0 ∷ (numbers ++ pos 0 ∷ [])), map-append signed_decimal numbers (pos 0 ∷ []), zero_word)
    (ap (λ ws. decimal id ∷ ws) (append_assoc (map signed_decimal literals) ((48 ∷ []) ∷ map signed_decimal numbers) ((48 ∷ []) ∷ [])))

step_words-Delete : (id : ℕ) (ids : List ℕ) → step_words (Delete id ids) ≡ decimal id ∷ (100 ∷ []) ∷ map decimal (ids ++ 0 ∷ [])
step_words-Delete id ids = rw (map-append decimal ids (0 ∷ []), zero_word)

literal_small : (z : ℤ) → is_literal_of max_literal z ≡ true → is_small z ≡ true
literal_small z good = grind (arith, nat_tests)

literal_not_zero : (z : ℤ) → is_literal_of max_literal z ≡ true → not (is_zero z) ≡ true
literal_not_zero z good = grind (arith, nat_tests)

module _ (literals hints : List ℤ) (good : list_all (is_literal_of max_literal) literals ≡ true) (good_hints : list_all is_hint hints
    ≡ true) where
  addition_small : list_all is_small (addition_numbers literals hints) ≡ true
  addition_small =
      list_all-append is_small literals (pos 0 ∷ (hints ++ pos 0 ∷ []))
      ∙ and_from _ _ (list_all_along (is_literal_of max_literal) is_small literal_small literals good)
      (list_all-append is_small hints (pos 0 ∷ []) ∙ and_from _ _
      (list_all_along is_hint is_small (λ z. id_small (nat_abs z)) hints good_hints) refl)

  addition_split : split_at is_zero (addition_numbers literals hints) ≡ Some (literals, hints ++ pos 0 ∷ [])
  addition_split = split_at-append is_zero literals (pos 0) (hints ++ pos 0
      ∷ []) (list_all_along (is_literal_of max_literal) (λ z. not (is_zero z)) literal_not_zero literals good) refl

  hints_split : split_at is_zero (hints ++ pos 0 ∷ []) ≡ Some (hints, [])
  hints_split = split_at-append is_zero hints (pos 0) [] (list_all_along is_hint (λ z. not (is_zero z))
      (λ z id. above_not_zero (nat_abs z) (id_above (nat_abs z) id)) hints good_hints) refl

  addition_of-good : (id : ℕ) → is_id id ≡ true → addition_of id literals (hints, [])
      ≡ Some (Add id literals (hints_before_group hints) (groups_of hints))
  addition_of-good id good_id = cond-true _ _ _ (and_four _ _ _ _ good_id good good_hints refl)

  addition_read : (id : ℕ) → is_id id ≡ true → step_of (decimal id ∷ map signed_decimal (addition_numbers literals hints))
      ≡ Some (Add id literals (hints_before_group hints) (groups_of hints))
  addition_read id good_id =
      let numbers = addition_numbers literals hints in
      let some : 0 < length numbers = omega (arith, length-append literals (pos 0 ∷ (hints ++ pos 0 ∷ []))) in
      ap (option_and_then (λ n. step_with n (map signed_decimal numbers))) (plain_number-decimal id (small_below id (id_small id good_id)))
      ∙ step_with-numbers id numbers some addition_small
      ∙ ap (option_and_then (addition_from id)) addition_split
      ∙ ap (option_and_then (addition_of id literals)) hints_split
      ∙ addition_of-good id good_id

deletion_read : (id : ℕ) (ids : List ℕ) → nat_le id max_id ≡ true → list_all is_id ids ≡ true
    → step_of (decimal id ∷ (100 ∷ []) ∷ map decimal (ids ++ 0 ∷ [])) ≡ Some (Delete id ids)
deletion_read id ids small good =
    let fits : (nat_le id max_id && list_all is_id ids && is_empty {X = ℕ} []) ≡ true = rw (small, good) in
    let all_small : list_all (λ n. nat_le n max_id) (ids ++ 0 ∷ []) ≡ true =
    list_all-append (λ n. nat_le n max_id) ids (0 ∷ []) ∙ and_from _ _
    (list_all_along is_id (λ n. nat_le n max_id) id_small ids good) refl in
    ap (option_and_then (λ n. step_with n ((100 ∷ []) ∷ map decimal (ids ++ 0 ∷ [])))) (plain_number-decimal id (small_below id small))
    ∙ ap (option_and_then (λ numbers. option_and_then (deletion_of id) (split_at (λ n. n == 0) numbers)))
    (plain_numbers (ids ++ 0 ∷ []) all_small)
    ∙ ap (option_and_then (deletion_of id)) (split_at-append (λ n. n == 0) ids 0 []
    (list_all_along is_id (λ n. not (n == 0)) (λ n here. above_not_zero n (id_above n here)) ids good) refl)
    ∙ cond-true _ _ _ fits

pub step_of-words : (step : Step) → is_printable step ≡ true → step_of (step_words step) ≡ Some step
step_of-words (Add id literals hints groups) good =
    let parts = four_parts (is_id id) (list_all (is_literal_of max_literal) literals) (list_all is_id hints)
    (list_all is_group groups) good in
    let numbers = hint_numbers hints groups in
    let before : hints_before_group numbers ≡ hints =
    hints_before-positive hints (flat_map group_numbers groups) ∙ ap (λ ns. hints ++ ns) (hints_before-groups groups parts.3)
    ∙ append-nil hints in
    let grouped : groups_of numbers ≡ groups = groups_of-positive hints (flat_map group_numbers groups) ∙ groups_of-groups groups parts.3 in
    ap step_of (step_words-Add id literals hints groups)
    ∙ addition_read literals numbers parts.1 (hint_numbers_good hints groups parts.2 parts.3) id parts.0
    ∙ rw (before, grouped)
step_of-words (Delete id ids) good =
    let parts = and_parts (nat_le id max_id) (list_all is_id ids) good in
    ap step_of (step_words-Delete id ids) ∙ deletion_read id ids parts.0 parts.1

-- Its words are words, and the first is a number.
pub words_good : (step : Step) → is_printable step ≡ true → list_all is_word (step_words step) ≡ true
words_good (Add id literals hints groups) good =
    let parts = four_parts (is_id id) (list_all (is_literal_of max_literal) literals) (list_all is_id hints)
    (list_all is_group groups) good in
    let numbers = hint_numbers hints groups in
    let small = addition_small literals numbers parts.1 (hint_numbers_good hints groups parts.2 parts.3) in
    ap (list_all is_word) (step_words-Add id literals hints groups)
    ∙ and_from _ _ (word_decimal id (small_below id (id_small id parts.0)))
    (list_all-map is_word signed_decimal (addition_numbers literals numbers)
    ∙ list_all_along is_small (λ z. is_word (signed_decimal z)) (λ z here. word_signed_decimal z (small_below (nat_abs z) here))
    (addition_numbers literals numbers) small)
words_good (Delete id ids) good =
    let parts = and_parts (nat_le id max_id) (list_all is_id ids) good in
    and_from _ _ (word_decimal id (small_below id parts.0))
    (list_all-append is_word (map decimal ids) ((48 ∷ []) ∷ [])
    ∙ and_from _ _
    (list_all-map is_word decimal ids ∙ list_all_along is_id (λ n. is_word (decimal n))
    (λ n here. word_decimal n (small_below n (id_small n here))) ids parts.1)
    refl)

pub words_first : (step : Step) → is_printable step ≡ true → (id : ℕ) × (words : List (List ℕ)) × (step_words step ≡ decimal id ∷ words)
    × (id < 2 ^ 64)
words_first (Add id literals hints groups) good = (id, _, refl, small_below id (id_small id (four_parts (is_id id) _ _ _ good).0))
words_first (Delete id ids) good = (id, _, refl, small_below id (and_parts (nat_le id max_id) _ good).0)

-- The line without its end: its words, and that it is one line.
abbrev pub front_of_line : Step → List ℕ
front_of_line step = join_with_byte 32 (step_words step)

pub words_of-line : (step : Step) → is_printable step ≡ true → words_of (front_of_line step) ≡ step_words step
words_of-line step good = words_of-join (step_words step) (words_good step good)

pub step_of-line : (step : Step) (front : List ℕ) → is_printable step ≡ true → line_of_step step ≡ front ++ 10 ∷ []
    → step_of (words_of front) ≡ Some step
step_of-line step front good line =
    ap (λ bytes. step_of (words_of bytes)) (sym (same_from_push (front_of_line step) front 10 10 line).0)
    ∙ ap step_of (words_of-line step good) ∙ step_of-words step good

pub one_line : (step : Step) → is_printable step ≡ true → none_pass is_line_end (front_of_line step) ≡ true
one_line step good = join_one_line (step_words step) (words_good step good)

-- One more line on whole lines: it is no comment, since it begins with a digit.
digit_no_comment : (byte : ℕ) → is_digit byte ≡ true → byte == 99 ≡ false
digit_no_comment byte digit = grind (arith, nat_tests)

no_comment : (n : ℕ) → n < 2 ^ 64 → begins_with 99 (decimal n) ≡ false
no_comment n small =
    let first = first_digit n small in
    subst (λ bytes. begins_with 99 bytes ≡ false) (sym first.2) (digit_no_comment first.0 first.3)

pub row_of-step : (line : ℕ) (step : Step) → is_printable step ≡ true → row_of 99 line (step_words step)
    ≡ record { line = line; words = step_words step } ∷ []
row_of-step line step good =
    let first = words_first step good in
    subst (λ words. row_of 99 line words ≡ record { line = line; words = words }
    ∷ []) (sym first.2) (cond-false _ _ _ (no_comment first.0 first.3))

pub proof_lines-line : (bytes : List ℕ) (step : Step) → are_whole_lines bytes ≡ true → is_printable step ≡ true
    → proof_lines (bytes ++ line_of_step step) ≡ proof_lines bytes ++ record { line = line_ends bytes + 1; step = Some step } ∷ []
proof_lines-line bytes step whole good =
    let front = front_of_line step in
    let line = line_ends bytes + 1 in
    ap (map line_of_row) (rows-line 99 front (one_line step good) bytes whole)
    ∙ map-append line_of_row (rows 99 bytes) (row_of 99 line (words_of front))
    ∙ ap (λ ls. proof_lines bytes ++ ls)
    (ap (map line_of_row) (ap (row_of 99 line) (words_of-line step good) ∙ row_of-step line step good)
    ∙ ap (λ s. record { line = line; step = s } ∷ []) (step_of-words step good))

pub whole-line : (bytes : List ℕ) (step : Step) → are_whole_lines (bytes ++ line_of_step step) ≡ true
whole-line bytes step = subst (λ bs. are_whole_lines bs ≡ true) (append_assoc bytes (front_of_line step) (10 ∷ []))
    (whole_lines-append (bytes ++ front_of_line step))

pub line_ends-step : (bytes : List ℕ) (step : Step) → is_printable step ≡ true → line_ends (bytes ++ line_of_step step) ≡ line_ends bytes
    + 1
line_ends-step bytes step good = line_ends-line (front_of_line step) (one_line step good) bytes

-- The first byte, and fronts of the line.
tail_same : {x y : ℕ} {xs ys : List ℕ} → x ∷ xs ≡ y ∷ ys → xs ≡ ys
tail_same e = cc

-- the first byte of a step's line is a digit
first_of_join : (byte : ℕ) (bytes : List ℕ) (words : List (List ℕ)) (more : List ℕ)
    → slice_index (join_with_byte 32 ((byte ∷ bytes) ∷ words) ++ more) 0 ≡ byte
first_of_join byte bytes [] more = refl
first_of_join byte bytes (word ∷ words) more = refl

pub first_byte : (step : Step) → is_printable step ≡ true → is_digit (slice_index (line_of_step step) 0) ≡ true
first_byte step good =
    let words = words_first step good in
    let digit = first_digit words.0 words.3 in
    let same : step_words step ≡ (digit.0 ∷ digit.1) ∷ words.1 = words.2 ∙ ap (λ word. word ∷ words.1) digit.2 in
    subst (λ ws. is_digit (slice_index (join_with_byte 32 ws ++ 10 ∷ []) 0) ≡ true) (sym same)
    (ap is_digit (first_of_join digit.0 digit.1 words.1 (10 ∷ [])) ∙ digit.3)

-- a front of a line that leaves something out has no line end
front_none : (front rest line : List ℕ) → none_pass is_line_end line ≡ true → front ++ rest ≡ line ++ 10 ∷ [] → 0 < length rest
    → none_pass is_line_end front ≡ true
front_none [] rest line one cut some = refl
front_none (byte ∷ front) rest [] one cut some =
    let total : length (front ++ rest) ≡ 0 = ap length (tail_same cut) in
    absurd (omega (arith, length-append front rest))
front_none (byte ∷ front) rest (first ∷ line) one cut some =
    let parts = and_parts (not (is_line_end first)) (none_pass is_line_end line) one in
    let same : byte ≡ first = cc in
    and_from _ _ (rw same parts.0) (front_none front rest line parts.1 (tail_same cut) some)

pub line_ends-front : (front rest : List ℕ) (step : Step) → is_printable step ≡ true → front ++ rest ≡ line_of_step step → 0 < length rest
    → line_ends front ≡ 0
line_ends-front front rest step good cut some = line_ends_none front
    (front_none front rest (front_of_line step) (one_line step good) cut some)

-- What a line spells is in range.
given_if_some : {X : Type 0} (P : X → Type 0) (b : Bool) (x : X) → (b ≡ true → P x) → IfSome (given_if b x) P
given_if_some P true x h = h refl
given_if_some P false x h = tt

and_then_some : {X Y : Type 0} (P : Y → Type 0) (f : X → Option Y) → ((x : X) → IfSome (f x) P) → (o : Option X)
    → IfSome (option_and_then f o) P
and_then_some P f h None = tt
and_then_some P f h (Some x) = h x

hints_before_range : (hints : List ℤ) → list_all is_hint hints ≡ true → list_all is_id (hints_before_group hints) ≡ true
hints_before_range [] good = refl
hints_before_range (pos n ∷ hints) good =
    let parts = and_parts (is_id n) (list_all is_hint hints) good in
    and_from _ _ parts.0 (hints_before_range hints parts.1)
hints_before_range (negsuc n ∷ hints) good = refl

groups_range : (hints : List ℤ) → list_all is_hint hints ≡ true → list_all is_group (groups_of hints) ≡ true
groups_range [] good = refl
groups_range (pos n ∷ hints) good = groups_range hints (and_parts (is_id n) (list_all is_hint hints) good).1
groups_range (negsuc n ∷ hints) good =
    let parts = and_parts (is_id (suc n)) (list_all is_hint hints) good in
    and_from _ _ (and_from _ _ parts.0 (hints_before_range hints parts.1)) (groups_range hints parts.1)

abbrev Printable : Step → Type 0
Printable step = is_printable step ≡ true

addition_range : (id : ℕ) (literals : List ℤ) (parts : List ℤ × List ℤ) → IfSome (addition_of id literals parts) Printable
addition_range id literals (hints, rest) =
    given_if_some Printable _ (Add id literals (hints_before_group hints) (groups_of hints))
    (λ good. let parts = four_parts (is_id id) (list_all (is_literal_of max_literal) literals) (list_all is_hint hints)
    (is_empty rest) good in
    and_four _ _ _ _ parts.0 parts.1 (hints_before_range hints parts.2) (groups_range hints parts.2))

addition_from_range : (id : ℕ) (parts : List ℤ × List ℤ) → IfSome (addition_from id parts) Printable
addition_from_range id (literals, rest) = and_then_some Printable (addition_of id literals) (addition_range id literals)
    (split_at is_zero rest)

deletion_range : (id : ℕ) (parts : List ℕ × List ℕ) → IfSome (deletion_of id parts) Printable
deletion_range id (ids, rest) =
    given_if_some Printable _ (Delete id ids) (λ good. (and_parts (nat_le id max_id && list_all is_id ids) (is_empty rest) good).0)

step_with_range : (id : ℕ) (words : List (List ℕ)) → IfSome (step_with id words) Printable
step_with_range id [] = tt
step_with_range id (word ∷ words) =
    cond_both (is_delete_word word) _ _ (λ o. IfSome o Printable)
    (λ _. and_then_some Printable (λ numbers. option_and_then (deletion_of id) (split_at (λ n. n == 0) numbers))
    (λ numbers. and_then_some Printable (deletion_of id) (deletion_range id) (split_at (λ n. n == 0) numbers))
    (all_given (map plain_number words)))
    (λ _. and_then_some Printable (λ numbers. option_and_then (addition_from id) (split_at is_zero numbers))
    (λ numbers. and_then_some Printable (addition_from id) (addition_from_range id) (split_at is_zero numbers))
    (all_given (map signed_number (word ∷ words))))

step_of_range : (words : List (List ℕ)) → IfSome (step_of words) Printable
step_of_range [] = tt
step_of_range (word ∷ words) = and_then_some Printable (λ id. step_with id words) (λ id. step_with_range id words) (plain_number word)

pub printable_of_words : (words : List (List ℕ)) (step : Step) → step_of words ≡ Some step → is_printable step ≡ true
printable_of_words words step e = subst (λ o. IfSome o Printable) e (step_of_range words)

pub addition_parts : (words : List (List ℕ)) (id : ℕ) (literals : List ℤ) (hints : List ℕ) (groups : List Group) → step_of words
    ≡ Some (Add id literals hints groups) → (is_id id ≡ true) × (list_all (is_literal_of max_literal) literals ≡ true)
    × (list_all is_id hints ≡ true) × (list_all is_group groups ≡ true)
addition_parts words id literals hints groups e = four_parts _ _ _ _ (printable_of_words words (Add id literals hints groups) e)
