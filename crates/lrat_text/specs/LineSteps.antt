-- What a reader of proofs gives in turn: the steps that the lines of a text spell, in any form of lines, up to the first
-- that spells none, to the end, or to the limit.
use Rattle.std.specs.Prelude.{◌≡◌, ℕ, Bool, true, false, List, [], ◌∷◌, ◌++◌, take, Option, None, Some, nat_lt, ◌==◌, if◌then◌else◌}
use Rattle.std.specs.List.{filter}
use Rattle.cnf_base.specs.Text.{Word, Row, rows, end_line}
use Rattle.text_scan.specs.Items.{Items, the_end, too_long, next_word, items_of_front, items}

-- Each step with its line. In the end the line of the end, that the text is longer than the limit, or the line that
-- spells no step, behind which nothing is given.
pub data StepsOf (Step : Type 0) : Type 0 where
  no_more : ℕ → StepsOf Step
  overlong : StepsOf Step
  no_step : ℕ → StepsOf Step
  next_step : Step → ℕ → StepsOf Step → StepsOf Step

-- which step the tokens of a line spell, if they spell one
abbrev pub Spelling : Type 0 → Type 0
Spelling Step = List (List ℕ) → Option Step

-- a line, and behind it those steps
abbrev pub step_then : {Step : Type 0} → Option Step → ℕ → StepsOf Step → StepsOf Step
step_then None line steps = no_step line
step_then (Some step) line steps = next_step step line steps

abbrev pub row_then : {Step : Type 0} → Spelling Step → Row → StepsOf Step → StepsOf Step
row_then step_of row steps = step_then (step_of row.words) row.line steps

-- these lines, and behind them those steps
abbrev pub rows_then : {Step : Type 0} → Spelling Step → List Row → StepsOf Step → StepsOf Step
rows_then step_of [] steps = steps
rows_then step_of (row ∷ rows) steps = row_then step_of row (rows_then step_of rows steps)

-- a line that has a token
abbrev pub has_words : List (List ℕ) → Bool
has_words [] = false
has_words (word ∷ words) = true

abbrev pub if_begun : {Step : Type 0} → Spelling Step → Row → StepsOf Step → StepsOf Step
if_begun step_of row steps = if has_words row.words then row_then step_of row steps else steps

-- the line of one token, and a line with one more token
abbrev pub row_of_word : Word → Row
row_of_word word = record { line = word.line; words = word.bytes ∷ [] }

abbrev pub row_with : Row → Word → Row
row_with row word = record { line = row.line; words = row.words ++ word.bytes ∷ [] }

-- The steps of the lines that these tokens go on with, where `row` has the tokens of the line that isn't ended. A
-- line is ended by a token of another line, by the end of the text, or at the limit where its line end stands under
-- it: then the line there is a later one. Else it isn't given.
abbrev pub steps_after : {Step : Type 0} → Spelling Step → Items → Row → StepsOf Step
steps_after step_of (the_end line) row = if_begun step_of row (no_more line)
steps_after step_of (too_long line) row = if nat_lt row.line line then if_begun step_of row overlong else overlong
steps_after step_of (next_word word items) row =
    if has_words row.words
    then if row.line == word.line then steps_after step_of items (row_with row word) else row_then step_of row
    (steps_after step_of items (row_of_word word))
    else steps_after step_of items (row_of_word word)

abbrev pub steps_of : {Step : Type 0} → Spelling Step → Items → StepsOf Step
steps_of step_of items = steps_after step_of items (record { line = 0; words = [] })

-- a whole proof text, of which as many bytes are looked at as the limit says (99 is `c`)
abbrev pub steps_by : {Step : Type 0} → Spelling Step → ℕ → List ℕ → StepsOf Step
steps_by step_of limit bytes = steps_of step_of (items 99 limit bytes)

-- These items where a text breaks off: at a limit on line 0 no line is ended but by a token of another line.
abbrev pub broken_off : Items → Items
broken_off (the_end line) = too_long 0
broken_off (too_long line) = too_long 0
broken_off (next_word word items) = next_word word (broken_off items)

-- The steps that the front of a longer text decides, whatever comes after it: a line is judged once the first token of
-- a later one has come. `overlong` says that nothing more is decided so far.
abbrev pub steps_so_far_by : {Step : Type 0} → Spelling Step → List ℕ → StepsOf Step
steps_so_far_by step_of bytes = steps_of step_of (broken_off (items_of_front 99 bytes))

-- the lines whose line ends stand among so many bytes of the text: those before the line on which these bytes end
abbrev pub is_before : ℕ → Row → Bool
is_before line row = nat_lt row.line line

abbrev pub rows_within : ℕ → List ℕ → List Row
rows_within limit bytes = filter (is_before (end_line (take limit bytes))) (rows 99 bytes)

-- the lines of the text are these and those behind them
pub record AreFirst (front all : List Row) : Type 0 where
  pub rest : List Row
  pub parts : all ≡ front ++ rest
