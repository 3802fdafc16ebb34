-- The line that is written for a step spells the step.
use Rattle.std.proofs.Common.{◌≡◌, ℕ, ◌+◌, ◌^◌, ◌<◌, true, false, ◌==◌, List, [], ◌∷◌, ◌++◌, map, ℤ, pos, negsuc, nat_abs, Some}
use Rattle.std.proofs.Common.{option_map, nat_lt, nat_le, refl, ap, sym, subst, ◌∙◌, append_assoc, arith}
use Rattle.std.specs.Fmt.{signed_decimal}
use Rattle.std.specs.List.{list_all, join_with_byte}
use Rattle.std.proofs.lemmas.Bool.{cond-false, and_parts, and_from, leb-true}
use Rattle.std.proofs.lemmas.Bool.Decides.{nat_tests}
use Rattle.std.proofs.lemmas.List.{map-append}
use Rattle.cnf_base.specs.Truth.{is_literal_of}
use Rattle.cnf_base.specs.Number.{is_digit, signed_number}
use Rattle.cnf_base.specs.Text.{is_line_end, begins_with, words_of, row_of, rows, line_ends}
use Rattle.cnf_base.specs.ProofText.{max_literal, all_given, split_at, is_zero, are_whole_lines}
use Rattle.cnf_base.proofs.TextLemmas.{is_word, none_pass, words_of-join, join_one_line, rows-line, line_ends-line, whole_lines-append}
use Rattle.cnf_base.proofs.NumberLemmas.{signed_number-signed_decimal, word_signed_decimal, delete_word_signed, first_digit}
use Rattle.drat_text.specs.declared.step.DratStep.{DratStep}
use Rattle.drat_text.specs.declared.step.DratStep.TheVariants.{Add as adds, Delete as deletes}
use Rattle.drat_text.specs.DratText.{clause_of, drat_step_of, drat_line_of, drat_lines, clause_words, drat_words}
use Rattle.drat_text.specs.DratText.{line_of_drat, is_drat_printable}

abbrev are_literals : List ℤ → Type 0
are_literals clause = list_all (is_literal_of max_literal) clause ≡ true

literal_small : (z : ℤ) → is_literal_of max_literal z ≡ true → nat_abs z < 2 ^ 64
literal_small z good =
    let parts = and_parts (nat_lt 0 (nat_abs z)) (nat_le (nat_abs z) max_literal) good in
    omega (arith, leb-true (nat_abs z) max_literal parts.1)

not_zero : (z : ℤ) → is_literal_of max_literal z ≡ true → is_zero z ≡ false
not_zero z good = grind (arith, nat_tests)

-- What is read of the words of a clause.
signed_numbers : (clause : List ℤ) → are_literals clause → all_given (map signed_number (clause_words clause)) ≡ Some (clause ++ pos 0 ∷ [])
signed_numbers [] good = refl
signed_numbers (z ∷ clause) good =
    let parts = and_parts (is_literal_of max_literal z) (list_all (is_literal_of max_literal) clause) good in
    rw (signed_number-signed_decimal z (literal_small z parts.0), signed_numbers clause parts.1) refl

split_clause : (clause : List ℤ) → are_literals clause → split_at is_zero (clause ++ pos 0 ∷ []) ≡ Some (clause, [])
split_clause [] good = refl
split_clause (z ∷ clause) good =
    let parts = and_parts (is_literal_of max_literal z) (list_all (is_literal_of max_literal) clause) good in
    rw (not_zero z parts.0, split_clause clause parts.1) refl

clause_back : (clause : List ℤ) → are_literals clause → clause_of (clause_words clause) ≡ Some clause
clause_back clause good = rw (signed_numbers clause good, split_clause clause good, good) refl

step_back-adds : (clause : List ℤ) → are_literals clause → drat_step_of (clause_words clause) ≡ Some (adds clause)
step_back-adds [] good = ap (option_map adds) (clause_back [] good)
step_back-adds (z ∷ clause) good =
    let parts = and_parts (is_literal_of max_literal z) (list_all (is_literal_of max_literal) clause) good in
    cond-false _ _ _ (delete_word_signed z (literal_small z parts.0)) ∙ ap (option_map adds) (clause_back (z ∷ clause) good)

pub step_back : (step : DratStep) → is_drat_printable step ≡ true → drat_step_of (drat_words step) ≡ Some step
step_back (adds clause) good = step_back-adds clause good
step_back (deletes clause) good = ap (option_map deletes) (clause_back clause good)

-- Its words are words, and the line is one line.
clause_good : (clause : List ℤ) → are_literals clause → list_all is_word (clause_words clause) ≡ true
clause_good [] good = refl
clause_good (z ∷ clause) good =
    let parts = and_parts (is_literal_of max_literal z) (list_all (is_literal_of max_literal) clause) good in
    and_from _ _ (word_signed_decimal z (literal_small z parts.0)) (clause_good clause parts.1)

words_good : (step : DratStep) → is_drat_printable step ≡ true → list_all is_word (drat_words step) ≡ true
words_good (adds clause) good = clause_good clause good
words_good (deletes clause) good = clause_good clause good

pub words_back : (step : DratStep) → is_drat_printable step ≡ true → words_of (join_with_byte 32 (drat_words step)) ≡ drat_words step
words_back step good = words_of-join (drat_words step) (words_good step good)

one_line : (step : DratStep) → is_drat_printable step ≡ true → none_pass is_line_end (join_with_byte 32 (drat_words step)) ≡ true
one_line step good = join_one_line (drat_words step) (words_good step good)

-- It is no comment.
digit_no_comment : (byte : ℕ) → is_digit byte ≡ true → byte == 99 ≡ false
digit_no_comment byte digit = grind (arith, nat_tests)

number_no_comment : (z : ℤ) → nat_abs z < 2 ^ 64 → begins_with 99 (signed_decimal z) ≡ false
number_no_comment (pos n) small =
    let first = first_digit n small in
    subst (λ bytes. begins_with 99 bytes ≡ false) (sym first.2) (digit_no_comment first.0 first.3)
number_no_comment (negsuc n) small = refl

row_of-adds : (line : ℕ) (clause : List ℤ) → are_literals clause → row_of 99 line (clause_words clause)
    ≡ record { line = line; words = clause_words clause } ∷ []
row_of-adds line [] good = refl
row_of-adds line (z ∷ clause) good =
    let parts = and_parts (is_literal_of max_literal z) (list_all (is_literal_of max_literal) clause) good in
    cond-false _ _ _ (number_no_comment z (literal_small z parts.0))

row_of-step : (line : ℕ) (step : DratStep) → is_drat_printable step ≡ true → row_of 99 line (drat_words step)
    ≡ record { line = line; words = drat_words step } ∷ []
row_of-step line (adds clause) good = row_of-adds line clause good
row_of-step line (deletes clause) good = refl

-- one more line on whole lines
pub drat_lines-line : (bytes : List ℕ) (step : DratStep) → are_whole_lines bytes ≡ true → is_drat_printable step ≡ true
    → drat_lines (bytes ++ line_of_drat step) ≡ drat_lines bytes ++ record { line = line_ends bytes + 1; step = Some step } ∷ []
drat_lines-line bytes step whole good =
    let front = join_with_byte 32 (drat_words step) in
    let line = line_ends bytes + 1 in
    ap (map drat_line_of) (rows-line 99 front (one_line step good) bytes whole)
    ∙ map-append drat_line_of (rows 99 bytes) (row_of 99 line (words_of front))
    ∙ ap (λ ls. drat_lines bytes ++ ls)
    (ap (map drat_line_of) (ap (row_of 99 line) (words_back step good) ∙ row_of-step line step good)
    ∙ ap (λ s. record { line = line; step = s } ∷ []) (step_back step good))

pub whole-line : (bytes : List ℕ) (step : DratStep) → are_whole_lines (bytes ++ line_of_drat step) ≡ true
whole-line bytes step = subst (λ bs. are_whole_lines bs ≡ true) (append_assoc bytes (join_with_byte 32 (drat_words step)) (10 ∷ []))
    (whole_lines-append (bytes ++ join_with_byte 32 (drat_words step)))

pub line_ends-drat : (bytes : List ℕ) (step : DratStep) → is_drat_printable step ≡ true → line_ends (bytes ++ line_of_drat step)
    ≡ line_ends bytes + 1
line_ends-drat bytes step good = line_ends-line (join_with_byte 32 (drat_words step)) (one_line step good) bytes
