-- A schedule as it is read: the line that isn't ended, and what is known of the clauses, the variables and the terms.
use Rattle.std.specs.Prelude.{◌≡◌, ℕ, zero, suc, ◌+◌, ◌-◌, ◌<◌, ◌≤◌, min, Bool, true, false, not, ◌&&◌, ◌||◌, List, [], ◌∷◌, ◌++◌, length, map}
use Rattle.std.specs.Prelude.{reverse, Option, None, Some, Result, Ok, Err, nat_lt, ◌==◌, if◌then◌else◌, slice_index_or, ⊤, ℤ}
use Rattle.std.specs.List.{list_any}
use Rattle.std.specs.Option.{option_map, option_and_then}
use Rattle.cnf_base.specs.Formula.{Formula}
use Rattle.cnf_base.specs.Number.{plain_number}
use Rattle.cnf_base.specs.Text.{Word}
use Rattle.text_scan.specs.Capped.{capped}
use Rattle.text_scan.specs.Items.{Items, the_end, too_long, next_word}
use Rattle.schedule_plan.specs.declared.plan.Move.{Move}
use Rattle.schedule_plan.specs.declared.plan.Move.TheVariants.{Push, Exists, ExistsAll}
use Rattle.schedule_plan.specs.declared.schedule.error.PlanKind.{PlanKind}
use Rattle.schedule_plan.specs.declared.schedule.error.PlanKind.TheVariants.{Syntax, ClauseRange, ClauseTwice, StackShort, VariableRange}
use Rattle.schedule_plan.specs.declared.schedule.error.PlanKind.TheVariants.{VariableInUse, ClauseUnused, TermsLeft}
use Rattle.schedule_plan.specs.declared.schedule.error.PlanError.{PlanError}
use Rattle.schedule_plan.specs.declared.schedule.error.PlanError.TheVariants.{Refused, ReadFault, TooLong, OutOfMemory}
use Rattle.schedule_plan.specs.declared.schedule.line.Command.{Command}
use Rattle.schedule_plan.specs.declared.schedule.line.Command.TheVariants.{Absent, Pushes, Conjoins, Quantifies, QuantifiesAll, Unknown}
use Rattle.schedule_plan.specs.declared.schedule.uses.Use.{Use}
use Rattle.schedule_plan.specs.declared.schedule.judge.ScheduleJudge.{ScheduleJudge}
use Rattle.schedule_plan.specs.Plan.{Term, Stage, no_stage, term_has, clause_has, clause_of_number, is_pushed, after_moves}
use Rattle.schedule_plan.specs.ScheduleText.{ScheduleText, plan, refusal, overlong, is_letter, conjunctions, line_taken, behind, at_end}

-- the number of a kind
abbrev pub number_of : PlanKind → ℕ
number_of Syntax = 1
number_of ClauseRange = 2
number_of ClauseTwice = 3
number_of StackShort = 4
number_of VariableRange = 5
number_of VariableInUse = 6
number_of ClauseUnused = 7
number_of TermsLeft = 8

-- The line: its command and its numbers, cut at a bound above every clause and variable; none where a token is none.
pub record DraftLine : Type 0 where
  pub line : ℕ
  pub command : Command
  pub numbers : Option (List ℕ)

abbrev pub no_draft : DraftLine
no_draft = record { line = 0; command = Absent; numbers = Some [] }

abbrev pub command_of : List ℕ → Command
command_of word =
    if is_letter 99 word then Pushes else if is_letter 97 word then Conjoins else if is_letter 113 word then Quantifies
    else if is_letter 101 word then QuantifiesAll else Unknown

abbrev pub draft_of_word : Word → DraftLine
draft_of_word word = record { line = word.line; command = command_of word.bytes; numbers = Some [] }

-- one more number
abbrev pub with_given : Option (List ℕ) → Option ℕ → Option (List ℕ)
with_given None number = None
with_given (Some numbers) None = None
with_given (Some numbers) (Some number) = Some (numbers ++ number ∷ [])

abbrev pub draft_with : DraftLine → Word → DraftLine
draft_with draft word = record {
  line = draft.line;
  command = draft.command;
  numbers = with_given draft.numbers (option_map capped (plain_number word.bytes));
}

abbrev pub is_command : Command → Bool
is_command Absent = false
is_command Pushes = true
is_command Conjoins = true
is_command Quantifies = true
is_command QuantifiesAll = true
is_command Unknown = true

abbrev pub is_open : DraftLine → Bool
is_open draft = is_command draft.command

-- the moves of a command with these numbers
abbrev pub moves_with : Command → List ℕ → Option (List Move)
moves_with command [] = None
moves_with Absent (first ∷ more) = None
moves_with Pushes (first ∷ more) = Some (map Push (first ∷ more))
moves_with Conjoins (first ∷ more) = conjunctions first more
moves_with Quantifies (first ∷ more) = Some (map Exists (first ∷ more))
moves_with QuantifiesAll (first ∷ more) = Some (ExistsAll (first ∷ more) ∷ [])
moves_with Unknown (first ∷ more) = None

abbrev pub moves_of_draft : DraftLine → Option (List Move)
moves_of_draft draft = option_and_then (moves_with draft.command) draft.numbers

abbrev pub draft_taken : Formula → DraftLine → List Move → Result (List Move) PlanKind
draft_taken formula draft done = if is_open draft then line_taken formula done (moves_of_draft draft) else Ok done

-- what these tokens go on with behind those moves
abbrev pub drafted : Formula → Items → DraftLine → List Move → ScheduleText
drafted formula (the_end line) draft done = behind (draft_taken formula draft done) draft.line (λ later. at_end formula later line)
drafted formula (too_long line) draft done =
    if nat_lt draft.line line then behind (draft_taken formula draft done) draft.line (λ later. overlong) else overlong
drafted formula (next_word word items) draft done =
    if is_open draft && draft.line == word.line then drafted formula items (draft_with draft word) done
    else behind (draft_taken formula draft done) draft.line (λ later. drafted formula items (draft_of_word word) later)

-- An answer is what a text is. A failed read and want of memory say nothing of it.
abbrev pub Answers : Result (List Move) PlanError → ScheduleText → Type 0
Answers (Ok moves) text = text ≡ plan moves
Answers (Err (Refused kind line)) text = text ≡ refusal kind line
Answers (Err TooLong) text = text ≡ overlong
Answers (Err ReadFault) text = ⊤
Answers (Err OutOfMemory) text = ⊤

-- What is ahead after a step is what was ahead before it, or the text is refused. Memory may be refused instead.
abbrev pub Goes : {T : Type 0} → Result T PlanError → ScheduleText → ScheduleText → Type 0
Goes (Ok value) before after = before ≡ after
Goes (Err (Refused kind line)) before after = before ≡ refusal kind line
Goes (Err TooLong) before after = ⊥
Goes (Err ReadFault) before after = ⊥
Goes (Err OutOfMemory) before after = ⊤

-- Moves were taken, and these are all of them now; or they have a fault. Memory may be refused instead.
abbrev pub Takes : {T : Type 0} → Result T PlanError → Result (List Move) PlanKind → ℕ → List Move → Type 0
Takes (Ok value) answer line done = answer ≡ Ok done
Takes (Err (Refused kind at)) answer line done = (answer ≡ Err kind) × (at ≡ line)
Takes (Err TooLong) answer line done = ⊥
Takes (Err ReadFault) answer line done = ⊥
Takes (Err OutOfMemory) answer line done = ⊤

-- Of a variable: how many clauses that aren't pushed yet hold it, which push was the earliest of those that do, and the
-- mark of the clause that was looked at last among those that do.

-- later than every push
abbrev pub never : ℕ
never = 4294967295

abbrev pub no_use : Use
no_use = record { to_come = 0; earliest = 0; seen = 0 }

abbrev pub use_at : List Use → ℕ → Use
use_at uses x = slice_index_or uses x no_use

-- a clause of this mark is there that holds the variable
abbrev pub counted : ℕ → Use → Use
counted mark one = if one.seen == mark then one else record { to_come = one.to_come + 1; earliest = one.earliest; seen = mark }

-- it is pushed, behind so many others
abbrev pub with_push : ℕ → ℕ → Use → Use
with_push mark place one =
    if one.seen == mark then one else record { to_come = one.to_come - 1; earliest = min one.earliest place; seen = mark }

-- it is quantified
abbrev pub when_quantified : Use → Use
when_quantified one = record { to_come = 0; earliest = never; seen = one.seen }

-- the variables of a clause are changed so
abbrev pub changed : (Use → Use) → List ℤ → List Use → ℕ → Use
changed change clause uses x = if clause_has x clause then change (use_at uses x) else use_at uses x

-- the variables of a set are quantified
abbrev pub is_among : List ℕ → ℕ → Bool
is_among xs x = list_any (λ y. x == y) xs

abbrev pub use_behind : List ℕ → List Use → ℕ → Use
use_behind xs uses x = if is_among xs x then when_quantified (use_at uses x) else use_at uses x

-- a clause to come holds the variable, or one that was pushed before the first of the top term's
abbrev pub is_used : List Use → ℕ → ℕ → Bool
is_used uses start x = nat_lt (use_at uses x).earliest start || nat_lt 0 (use_at uses x).to_come

-- how many of the clauses up to a number pass the test and aren't pushed yet
abbrev pub to_come : (ℕ → Bool) → List ℕ → ℕ → ℕ
to_come test pushed zero = 0
to_come test pushed (suc n) = (if not (is_pushed pushed (suc n)) && test (suc n) then 1 else 0) + to_come test pushed n

abbrev pub any_clause : ℕ → Bool
any_clause i = true

abbrev pub holds : Formula → ℕ → ℕ → Bool
holds formula x i = clause_has x (clause_of_number formula i)

-- The pushes before each stacked term, the last term first: for each variable the earliest push that counts is before a
-- term exactly where the terms below hold it.
abbrev pub AreStarts : Formula → (ℕ → ℕ) → List Term → List ℕ → ℕ → Type 0
AreStarts formula earliest [] [] end = (x : ℕ) → x ≤ formula.vars → nat_lt (earliest x) end ≡ false
AreStarts formula earliest [] (start ∷ starts) end = ⊥
AreStarts formula earliest (top ∷ rest) [] end = ⊥
AreStarts formula earliest (top ∷ rest) (start ∷ starts) end =
    (start ≤ end) × ((x : ℕ) → x ≤ formula.vars → nat_lt (earliest x) end ≡ list_any (term_has formula x) (top ∷ rest))
    × AreStarts formula earliest rest starts start

pub record IsUse (formula : Formula) (pushed : List ℕ) (pushes x : ℕ) (one : Use) : Type 0 where
  pub right : one.to_come ≡ to_come (holds formula x) pushed (length formula.clauses)
  pub seen : one.seen ≤ length formula.clauses + pushes
  pub earliest : pushes ≤ one.earliest → one.earliest ≡ never

-- what is kept is of the stage behind the moves
pub record IsAt (formula : Formula) (judge : ScheduleJudge) (stage : Stage) : Type 0 where
  pub possible : after_moves formula no_stage judge.moves.items ≡ Some stage
  pub use_count : length judge.uses.items ≡ formula.vars + 1
  pub flag_count : length judge.flags.items ≡ length formula.clauses + 1
  pub flags : (i : ℕ) → 0 < i → i ≤ length formula.clauses → slice_index_or judge.flags.items i false ≡ is_pushed stage.pushed i
  pub pushes : judge.pushes + to_come any_clause stage.pushed (length formula.clauses) ≡ length formula.clauses
  pub uses : (x : ℕ) → x ≤ formula.vars → IsUse formula stage.pushed judge.pushes x (use_at judge.uses.items x)
  pub starts : AreStarts formula (λ x. (use_at judge.uses.items x).earliest) stage.stack (reverse judge.starts.items) judge.pushes

pub record Stands (formula : Formula) (judge : ScheduleJudge) : Type 0 where
  pub stage : Stage
  pub at : IsAt formula judge stage
