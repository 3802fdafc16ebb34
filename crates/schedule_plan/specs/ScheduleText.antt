-- Schedule texts: a plan typed out, one command a line. `c` pushes the clauses of some numbers in turn, `a` conjoins as
-- many top terms as its number says, `q` quantifies some variables in turn, `e` a set of variables at once. Comment lines
-- begin with `#`. (The format is this project's own, after the schedules of Bryant and Heule: Generating Extended
-- Resolution Proofs with a BDD-Based SAT Solver, 2021, section 5.)
use Rattle.std.specs.Prelude.{ℕ, zero, suc, ◌-◌, Bool, true, false, not, ◌&&◌, ◌||◌, List, [], ◌∷◌, ◌++◌, length, map, replicate, Option}
use Rattle.std.specs.Prelude.{None, Some, Result, Ok, Err, nat_lt, nat_le, ◌==◌, if◌then◌else◌}
use Rattle.std.specs.List.{list_any}
use Rattle.std.specs.Option.{option_and_then}
use Rattle.cnf_base.specs.Formula.{Formula}
use Rattle.cnf_base.specs.Number.{plain_number}
use Rattle.cnf_base.specs.ProofText.{all_given}
use Rattle.cnf_base.specs.Text.{Word, Row}
use Rattle.text_scan.specs.Items.{Items, the_end, too_long, next_word, items_of_front, items}
use Rattle.schedule_plan.specs.declared.plan.Move.{Move}
use Rattle.schedule_plan.specs.declared.plan.Move.TheVariants.{Push, And, Exists, ExistsAll}
use Rattle.schedule_plan.specs.declared.schedule.error.PlanKind.{PlanKind}
use Rattle.schedule_plan.specs.declared.schedule.error.PlanKind.TheVariants.{Syntax, ClauseRange, ClauseTwice, StackShort, VariableRange}
use Rattle.schedule_plan.specs.declared.schedule.error.PlanKind.TheVariants.{VariableInUse, ClauseUnused, TermsLeft}
use Rattle.schedule_plan.specs.Plan.{Term, Stage, no_stage, term_has, is_pushed, holds_later, after_moves}
pub use Rattle.cnf_base.specs.Limits.{max_bytes}

-- What a text is: a plan; a refusal, its kind and line; or a text that is judged by its first bytes and not refused by
-- them.
pub data ScheduleText : Type 0 where
  plan : List Move → ScheduleText
  refusal : PlanKind → ℕ → ScheduleText
  overlong : ScheduleText

-- A line.

-- a word of this one letter
abbrev pub is_letter : ℕ → List ℕ → Bool
is_letter letter [] = false
is_letter letter (byte ∷ []) = byte == letter
is_letter letter (byte ∷ more ∷ bytes) = false

-- the number is one of at least two terms, and nothing stands behind it
abbrev pub conjunctions : ℕ → List ℕ → Option (List Move)
conjunctions terms [] = if nat_le 2 terms then Some (replicate (terms - 1) And) else None
conjunctions terms (next ∷ more) = None

-- the moves of a command with these numbers, of which it has at least one: `c` (99), `a` (97), `q` (113), `e` (101)
abbrev pub command_moves : List ℕ → List ℕ → Option (List Move)
command_moves word [] = None
command_moves word (first ∷ more) =
    if is_letter 99 word then Some (map Push (first ∷ more))
    else if is_letter 97 word then conjunctions first more
    else if is_letter 113 word then Some (map Exists (first ∷ more))
    else if is_letter 101 word then Some (ExistsAll (first ∷ more) ∷ [])
    else None

-- the moves that a line's tokens spell, if they spell a command
abbrev pub moves_of_words : List (List ℕ) → Option (List Move)
moves_of_words [] = None
moves_of_words (word ∷ words) = option_and_then (command_moves word) (all_given (map plain_number words))

-- The faults of a move. The first test that holds decides.

abbrev pub fault_of_push : Formula → Stage → ℕ → Option PlanKind
fault_of_push formula stage i =
    if not (nat_lt 0 i && nat_le i (length formula.clauses)) then Some ClauseRange
    else if is_pushed stage.pushed i then Some ClauseTwice
    else None

abbrev pub fault_of_and : Stage → Option PlanKind
fault_of_and stage = if nat_lt (length stage.stack) 2 then Some StackShort else None

abbrev pub fault_of_exists : Formula → Stage → ℕ → List Term → Option PlanKind
fault_of_exists formula stage x [] = Some StackShort
fault_of_exists formula stage x (top ∷ rest) =
    if not (nat_lt 0 x && nat_le x formula.vars) then Some VariableRange
    else if list_any (term_has formula x) rest || holds_later formula stage.pushed x (length formula.clauses) then Some VariableInUse
    else None

-- a number of no variable
abbrev pub is_out_of_range : Formula → ℕ → Bool
is_out_of_range formula x = not (nat_lt 0 x && nat_le x formula.vars)

-- another stacked term or a clause to come holds the variable
abbrev pub is_in_use : Formula → List Term → List ℕ → ℕ → Bool
is_in_use formula rest pushed x = list_any (term_has formula x) rest || holds_later formula pushed x (length formula.clauses)

-- each test is made of all variables of the set before the next one
abbrev pub fault_of_all : Formula → Stage → List ℕ → List Term → Option PlanKind
fault_of_all formula stage xs [] = Some StackShort
fault_of_all formula stage xs (top ∷ rest) =
    if list_any (is_out_of_range formula) xs then Some VariableRange
    else if list_any (is_in_use formula rest stage.pushed) xs then Some VariableInUse
    else None

abbrev pub fault_of_move : Formula → Stage → Move → Option PlanKind
fault_of_move formula stage (Push i) = fault_of_push formula stage i
fault_of_move formula stage And = fault_of_and stage
fault_of_move formula stage (Exists x) = fault_of_exists formula stage x stage.stack
fault_of_move formula stage (ExistsAll xs) = fault_of_all formula stage xs stage.stack

-- those at the end
abbrev pub all_pushed : List ℕ → ℕ → Bool
all_pushed pushed zero = true
all_pushed pushed (suc n) = is_pushed pushed (suc n) && all_pushed pushed n

abbrev pub fault_at_end : Formula → Stage → Option PlanKind
fault_at_end formula stage =
    if not (all_pushed stage.pushed (length formula.clauses)) then Some ClauseUnused
    else if nat_lt 1 (length stage.stack) then Some TermsLeft
    else None

-- The moves so far, and the next.

abbrev pub fault_behind : Formula → List Move → Move → Option PlanKind
fault_behind formula done move = option_and_then (λ stage. fault_of_move formula stage move) (after_moves formula no_stage done)

abbrev pub end_fault_behind : Formula → List Move → Option PlanKind
end_fault_behind formula done = option_and_then (fault_at_end formula) (after_moves formula no_stage done)

abbrev pub unless : Option PlanKind → Result (List Move) PlanKind → Result (List Move) PlanKind
unless None result = result
unless (Some kind) result = Err kind

-- all moves with these behind them, or the first fault among these
abbrev pub taken : Formula → List Move → List Move → Result (List Move) PlanKind
taken formula done [] = Ok done
taken formula done (move ∷ moves) = unless (fault_behind formula done move) (taken formula (done ++ move ∷ []) moves)

-- the same of a line, which is first judged as a form
abbrev pub line_taken : Formula → List Move → Option (List Move) → Result (List Move) PlanKind
line_taken formula done None = Err Syntax
line_taken formula done (Some moves) = taken formula done moves

-- The text.

-- what comes behind a line, where it is taken
abbrev pub behind : Result (List Move) PlanKind → ℕ → (List Move → ScheduleText) → ScheduleText
behind (Ok done) line rest = rest done
behind (Err kind) line rest = refusal kind line

abbrev pub at_end : Formula → List Move → ℕ → ScheduleText
at_end formula done line = behind (unless (end_fault_behind formula done) (Ok done)) line plan

abbrev pub has_words : List (List ℕ) → Bool
has_words [] = false
has_words (word ∷ words) = true

abbrev pub row_then : Formula → Row → List Move → (List Move → ScheduleText) → ScheduleText
row_then formula row done rest = if has_words row.words then behind
    (line_taken formula done (moves_of_words row.words)) row.line rest else rest done

-- no token yet, the line of one token, and a line with one more token
abbrev pub no_row : Row
no_row = record { line = 0; words = [] }

abbrev pub row_of_word : Word → Row
row_of_word word = record { line = word.line; words = word.bytes ∷ [] }

abbrev pub row_with : Row → Word → Row
row_with row word = record { line = row.line; words = row.words ++ word.bytes ∷ [] }

-- What these tokens go on with behind those moves, where `row` has the tokens of the line that isn't ended. A line is
-- ended by a token of another line, by the end of the text, or at the limit where its line end stands under it: then the
-- line there is a later one. Else it isn't judged.
abbrev pub schedule_after : Formula → Items → Row → List Move → ScheduleText
schedule_after formula (the_end line) row done = row_then formula row done (λ later. at_end formula later line)
schedule_after formula (too_long line) row done = if nat_lt row.line line then row_then formula row done (λ later. overlong) else overlong
schedule_after formula (next_word word items) row done =
    if has_words row.words && row.line == word.line then schedule_after formula items (row_with row word) done
    else row_then formula row done (λ later. schedule_after formula items (row_of_word word) later)

-- a whole text (35 is `#`)
abbrev pub schedule : Formula → List ℕ → ScheduleText
schedule formula bytes = schedule_after formula (items 35 max_bytes bytes) no_row []

-- These items where a text breaks off: at a limit on line 0 no line is ended but by a token of another line.
abbrev pub broken_off : Items → Items
broken_off (the_end line) = too_long 0
broken_off (too_long line) = too_long 0
broken_off (next_word word items) = next_word word (broken_off items)

-- What the front of a text decides, whatever comes after it: a line is judged once the first token of a later one has
-- come, and `overlong` says that nothing is decided so far.
abbrev pub schedule_so_far : Formula → List ℕ → ScheduleText
schedule_so_far formula bytes = schedule_after formula (broken_off (items_of_front 35 bytes)) no_row []
