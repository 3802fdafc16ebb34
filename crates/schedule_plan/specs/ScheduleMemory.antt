-- Where reading a schedule may want memory: before the first byte, for what is kept of the formula; for a number behind a command; and for
-- a move that has no fault, with no more tokens behind than a block of the bytes taken can spell, and those that follow. Behind a line that
-- isn't taken nothing is wanted any more.
use Rattle.std.specs.Prelude.{ℕ, Bool, false, ◌&&◌, ◌||◌, List, [], ◌∷◌, Option, None, Some, Result, Ok, Err, is_some, is_none, nat_lt, ◌==◌}
use Rattle.std.specs.Prelude.{if◌then◌else◌}
use Rattle.cnf_base.specs.Formula.{Formula}
use Rattle.text_scan.specs.Items.{Items, the_end, too_long, next_word, items}
use Rattle.text_scan.specs.Near.{is_near}
use Rattle.schedule_plan.specs.declared.plan.Move.{Move}
use Rattle.schedule_plan.specs.declared.schedule.error.PlanKind.{PlanKind}
use Rattle.schedule_plan.specs.ScheduleText.{max_bytes, fault_behind}
use Rattle.schedule_plan.specs.ScheduleState.{DraftLine, no_draft, draft_of_word, draft_with, is_open, moves_of_draft, draft_taken}

-- all tokens behind the command are numbers so far; they are kept until the line is ended
abbrev pub has_numbers : DraftLine → Bool
has_numbers draft = is_some draft.numbers

-- The first of these moves has no fault, and is kept. Where it has one, no later move is looked at.
abbrev pub moves_may_want_memory : Formula → List Move → List Move → Bool
moves_may_want_memory formula done [] = false
moves_may_want_memory formula done (move ∷ moves) = is_none (fault_behind formula done move)

-- so has the first move of a line that is ended, if it spells any
abbrev pub spelled_may_want_memory : Formula → List Move → Option (List Move) → Bool
spelled_may_want_memory formula done None = false
spelled_may_want_memory formula done (Some moves) = moves_may_want_memory formula done moves

abbrev pub line_may_want_memory : Formula → DraftLine → List Move → Bool
line_may_want_memory formula draft done = is_open draft && spelled_may_want_memory formula done (moves_of_draft draft)

-- what comes behind a line, where it is taken
abbrev pub if_taken : Result (List Move) PlanKind → (List Move → Bool) → Bool
if_taken (Ok done) rest = rest done
if_taken (Err kind) rest = false

-- these tokens, behind those moves and the line that isn't ended, where so many bytes follow those taken
abbrev pub items_may_want_memory : ℕ → Formula → Items → DraftLine → List Move → Bool
items_may_want_memory more formula (the_end line) draft done = line_may_want_memory formula draft done
items_may_want_memory more formula (too_long line) draft done = nat_lt draft.line line && line_may_want_memory formula draft done
items_may_want_memory more formula (next_word word items) draft done =
    if is_open draft && draft.line == word.line
    then has_numbers (draft_with draft word) && is_near more items || items_may_want_memory more formula items (draft_with draft word) done
    else line_may_want_memory formula draft done && is_near more items
    || if_taken (draft_taken formula draft done) (λ later. items_may_want_memory more formula items (draft_of_word word) later)

-- a whole text (35 is `#`)
abbrev pub may_want_memory : Formula → ℕ → List ℕ → Bool
may_want_memory formula more bytes = items_may_want_memory more formula (items 35 max_bytes bytes) no_draft []
