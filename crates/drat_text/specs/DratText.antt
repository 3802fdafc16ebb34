-- The textual DRAT format: the step that a line spells, and the line that is written for a step.
--     addition   literals 0
--     deletion   d literals 0
-- (Wetzler, Heule, Hunt: DRAT-trim: Efficient Checking and Trimming Using Expressive Clausal Proofs, SAT 2014.)
use Rattle.std.specs.Prelude.{ℕ, Bool, ◌&&◌, ℤ, List, [], ◌∷◌, ◌++◌, map, Option, None, if◌then◌else◌}
use Rattle.std.specs.Fmt.{signed_decimal}
use Rattle.std.specs.List.{list_all, flat_map, join_with_byte}
use Rattle.std.specs.Option.{option_map, option_and_then}
use Rattle.cnf_base.specs.Truth.{is_literal_of}
use Rattle.cnf_base.specs.Number.{signed_number}
use Rattle.cnf_base.specs.Text.{Row, rows}
use Rattle.cnf_base.specs.ProofText.{max_literal, all_given, split_at, is_empty, is_zero, given_if, is_delete_word}
use Rattle.drat_text.specs.declared.step.DratStep.{DratStep}
use Rattle.drat_text.specs.declared.step.DratStep.TheVariants.{Add as adds, Delete as deletes}

abbrev pub step_on : Bool → List ℤ → DratStep
step_on deleted clause = if deleted then deletes clause else adds clause

-- Reading. The clause of numbers that are literals and a zero behind them.
abbrev pub clause_with : List ℤ × List ℤ → Option (List ℤ)
clause_with (literals, rest) = given_if (list_all (is_literal_of max_literal) literals && is_empty rest) literals

abbrev pub clause_from : List ℤ → Option (List ℤ)
clause_from numbers = option_and_then clause_with (split_at is_zero numbers)

abbrev pub clause_of : List (List ℕ) → Option (List ℤ)
clause_of words = option_and_then clause_from (all_given (map signed_number words))

-- the step that a line's tokens spell, if they spell one
abbrev pub drat_step_of : List (List ℕ) → Option DratStep
drat_step_of [] = None
drat_step_of (word ∷ words) =
    if is_delete_word word then option_map deletes (clause_of words) else option_map adds (clause_of (word ∷ words))

-- a line of a proof: its number, and its step, or nothing where it is no step
pub record DratLine : Type 0 where
  pub line : ℕ
  pub step : Option DratStep

abbrev pub drat_line_of : Row → DratLine
drat_line_of row = record { line = row.line; step = drat_step_of row.words }

-- the lines of a proof text that have a token and are no comment (99 is `c`)
abbrev pub drat_lines : List ℕ → List DratLine
drat_lines bytes = map drat_line_of (rows 99 bytes)

-- Writing. The words of a step in their order: 0 is `48`, the word of a deletion `100`.
abbrev pub clause_words : List ℤ → List (List ℕ)
clause_words clause = map signed_decimal clause ++ (48 ∷ []) ∷ []

abbrev pub drat_words : DratStep → List (List ℕ)
drat_words (adds clause) = clause_words clause
drat_words (deletes clause) = (100 ∷ []) ∷ clause_words clause

-- one space between two words, and a line end
abbrev pub line_of_drat : DratStep → List ℕ
line_of_drat step = join_with_byte 32 (drat_words step) ++ 10 ∷ []

-- the text of a proof: the lines of its steps
abbrev pub drat_text : List DratStep → List ℕ
drat_text steps = flat_map line_of_drat steps

-- its literals are in their range, so that its line can be read again
abbrev pub clause_in : DratStep → List ℤ
clause_in (adds clause) = clause
clause_in (deletes clause) = clause

abbrev pub is_drat_printable : DratStep → Bool
is_drat_printable step = list_all (is_literal_of max_literal) (clause_in step)
