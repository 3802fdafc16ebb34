-- The textual LRAT format: the step that a line spells, and the line that is written for a step.
--     addition   id literals 0 hints 0      a negative hint -d opens the group of candidate d
--     deletion   id d ids 0
-- (Cruz-Filipe, Heule, Hunt, Kaufmann, Schneider-Kamp: Efficient Certified RAT Verification, CADE 2017.)
use Rattle.std.specs.Prelude.{ℕ, suc, Bool, true, false, ◌&&◌, ℤ, pos, negsuc, nat_abs, neg_ℤ, List, [], ◌∷◌, ◌++◌, map, Option, None, Some}
use Rattle.std.specs.Prelude.{nat_lt, nat_le, ◌==◌, if◌then◌else◌, decimal}
use Rattle.std.specs.Fmt.{signed_decimal}
use Rattle.std.specs.List.{list_all, flat_map, join_with_byte}
use Rattle.std.specs.Option.{option_map, option_and_then}
use Rattle.cnf_base.specs.declared.step.Step.{Step}
use Rattle.cnf_base.specs.declared.step.Step.TheVariants.{Add, Delete}
use Rattle.cnf_base.specs.declared.list.Group.{Group}
use Rattle.cnf_base.specs.Truth.{is_literal_of}
use Rattle.cnf_base.specs.Number.{plain_number, signed_number}
use Rattle.cnf_base.specs.Text.{Row, rows}

-- the greatest identifier, and the greatest magnitude of a literal
abbrev pub max_id : ℕ
max_id = 999999999999999999

abbrev pub max_literal : ℕ
max_literal = 2147483647

abbrev pub is_id : ℕ → Bool
is_id n = nat_lt 0 n && nat_le n max_id

abbrev pub is_hint : ℤ → Bool
is_hint hint = is_id (nat_abs hint)

-- what each of them gives, where each gives something
abbrev pub all_given : {X : Type 0} → List (Option X) → Option (List X)
all_given [] = Some []
all_given (None ∷ more) = None
all_given (Some x ∷ more) = option_map (λ xs. x ∷ xs) (all_given more)

-- an item in front of the first of two lists
abbrev pub in_front : {X : Type 0} → X → List X × List X → List X × List X
in_front x (before, after) = (x ∷ before, after)

-- the items before the first that passes the test, and those after it
abbrev pub split_at : {X : Type 0} → (X → Bool) → List X → Option (List X × List X)
split_at test [] = None
split_at test (x ∷ xs) = if test x then Some ([], xs) else option_map (in_front x) (split_at test xs)

abbrev pub is_empty : {X : Type 0} → List X → Bool
is_empty [] = true
is_empty (x ∷ xs) = false

abbrev pub is_zero : ℤ → Bool
is_zero number = nat_abs number == 0

abbrev pub given_if : {X : Type 0} → Bool → X → Option X
given_if b x = if b then Some x else None

-- the hints before the first negative one
abbrev pub hints_before_group : List ℤ → List ℕ
hints_before_group [] = []
hints_before_group (pos n ∷ hints) = n ∷ hints_before_group hints
hints_before_group (negsuc n ∷ hints) = []

-- each negative hint with the positive ones behind it
abbrev pub groups_of : List ℤ → List Group
groups_of [] = []
groups_of (pos n ∷ hints) = groups_of hints
groups_of (negsuc n ∷ hints) = record { id = suc n; hints = hints_before_group hints } ∷ groups_of hints

-- the addition of these literals with these hints, where all are in their ranges and nothing follows
abbrev pub addition_of : ℕ → List ℤ → List ℤ × List ℤ → Option Step
addition_of id literals (hints, rest) =
    given_if (is_id id && list_all (is_literal_of max_literal) literals && list_all is_hint hints && is_empty rest)
    (Add id literals (hints_before_group hints) (groups_of hints))

abbrev pub addition_from : ℕ → List ℤ × List ℤ → Option Step
addition_from id (literals, rest) = option_and_then (addition_of id literals) (split_at is_zero rest)

abbrev pub deletion_of : ℕ → List ℕ × List ℕ → Option Step
deletion_of id (ids, rest) = given_if (nat_le id max_id && list_all is_id ids && is_empty rest) (Delete id ids)

-- the word `d`
abbrev pub is_delete_word : List ℕ → Bool
is_delete_word [] = false
is_delete_word (byte ∷ []) = byte == 100
is_delete_word (byte ∷ more ∷ bytes) = false

abbrev pub step_with : ℕ → List (List ℕ) → Option Step
step_with id [] = None
step_with id (word ∷ words) =
    if is_delete_word word
    then option_and_then (λ numbers. option_and_then (deletion_of id) (split_at (λ n. n == 0) numbers)) (all_given (map plain_number words))
    else option_and_then (λ numbers. option_and_then (addition_from id) (split_at is_zero numbers))
    (all_given (map signed_number (word ∷ words)))

-- the step that a line's tokens spell, if they spell one
abbrev pub step_of : List (List ℕ) → Option Step
step_of [] = None
step_of (word ∷ words) = option_and_then (λ id. step_with id words) (plain_number word)

-- a line of a proof: its number, and its step, or nothing where it is no step
pub record Line : Type 0 where
  pub line : ℕ
  pub step : Option Step

abbrev pub line_of_row : Row → Line
line_of_row row = record { line = row.line; step = step_of row.words }

-- the lines of a proof text that have a token and are no comment (99 is `c`)
abbrev pub proof_lines : List ℕ → List Line
proof_lines bytes = map line_of_row (rows 99 bytes)

-- Writing. The words of a step in their order: 0 is `48`, the word of a deletion `100`.
abbrev pub group_numbers : Group → List ℤ
group_numbers group = neg_ℤ (pos group.id) ∷ map pos group.hints

abbrev pub step_words : Step → List (List ℕ)
step_words (Add id literals hints groups) =
    decimal id ∷ map signed_decimal literals ++ (48 ∷ []) ∷ map signed_decimal (map pos hints ++ flat_map group_numbers groups) ++ (48 ∷ [])
    ∷ []
step_words (Delete id ids) = decimal id ∷ (100 ∷ []) ∷ map decimal ids ++ (48 ∷ []) ∷ []

-- one space between two words, and a line end
abbrev pub line_of_step : Step → List ℕ
line_of_step step = join_with_byte 32 (step_words step) ++ 10 ∷ []

-- its numbers are in their ranges, so that its line can be read again
abbrev pub is_group : Group → Bool
is_group group = is_id group.id && list_all is_id group.hints

abbrev pub is_printable : Step → Bool
is_printable (Add id literals hints groups) = is_id id && list_all (is_literal_of max_literal) literals && list_all is_id hints
    && list_all is_group groups
is_printable (Delete id ids) = nat_le id max_id && list_all is_id ids

-- no line, or the last one is ended
abbrev pub are_whole_lines : List ℕ → Bool
are_whole_lines [] = true
are_whole_lines (byte ∷ []) = byte == 10
are_whole_lines (byte ∷ more ∷ bytes) = are_whole_lines (more ∷ bytes)
