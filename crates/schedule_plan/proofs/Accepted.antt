-- The moves of a schedule that is accepted are an admissible plan.
use Rattle.std.proofs.Common.{◌≡◌, ℕ, ◌≤◌, Bool, true, false, ◌&&◌, ◌==◌, List, [], length, None, Some, Result, Ok, Err, refl, sym, ap}
use Rattle.std.proofs.Common.{subst, ◌∙◌, arith}
use Rattle.std.specs.Prelude.{not, nat_lt, if◌then◌else◌}
use Rattle.std.specs.Option.{option_and_then}
use Rattle.std.proofs.lemmas.Bool.Decides.{nat_tests}
use Rattle.cnf_base.specs.Formula.{Formula}
use Rattle.cnf_base.specs.Text.{Row}
use Rattle.text_scan.specs.Items.{Items, the_end, too_long, next_word, items}
use Rattle.schedule_plan.specs.declared.plan.Move.{Move}
use Rattle.schedule_plan.specs.declared.schedule.error.PlanKind.{PlanKind}
use Rattle.schedule_plan.specs.declared.schedule.error.PlanKind.TheVariants.{ClauseUnused, TermsLeft}
use Rattle.schedule_plan.specs.Plan.{Stage, IsAdmissible}
use Rattle.schedule_plan.specs.ScheduleText.{ScheduleText, plan, refusal, overlong, max_bytes, fault_at_end, all_pushed, unless, line_taken}
use Rattle.schedule_plan.specs.ScheduleText.{moves_of_words, behind, at_end, has_words, row_then, no_row, row_of_word, row_with}
use Rattle.schedule_plan.specs.ScheduleText.{schedule_after, schedule}
use Rattle.schedule_plan.proofs.ToCome.{each_pushed}
use Rattle.schedule_plan.proofs.Reached.{Reached, reached_none}
use Rattle.schedule_plan.proofs.Drafted.{line_reached}

plan_is : {a b : List Move} → plan a ≡ plan b → a ≡ b
plan_is e = cc

no_refusal : {kind : PlanKind} {line : ℕ} {moves : List Move} → refusal kind line ≡ plan moves → ⊥
no_refusal e = cc

no_overlong : {moves : List Move} → overlong ≡ plan moves → ⊥
no_overlong e = cc

at_most_one : (n : ℕ) → nat_lt 1 n ≡ false → n ≤ 1
at_most_one n few = grind (arith, nat_tests, few)

-- the end
ends : (formula : Formula) (done moves : List Move) (line : ℕ) (stage : Stage) (all many : Bool)
    → all_pushed stage.pushed (length formula.clauses) ≡ all → nat_lt 1 (length stage.stack) ≡ many
    → (on : Reached formula done) → on.stage ≡ stage
    → behind (unless (if not all then Some ClauseUnused else if many then Some TermsLeft else None) (Ok done)) line plan ≡ plan moves
    → IsAdmissible formula moves
ends formula done moves line stage true false all few on is e = subst (IsAdmissible formula) (plan_is e) (record {
  last = stage;
  possible = on.possible ∙ ap Some is;
  all_pushed = λ i positive small. each_pushed stage.pushed (length formula.clauses) i all positive small;
  one_term = at_most_one (length stage.stack) few;
})
ends formula done moves line stage true true all few on is e = absurd (no_refusal e)
ends formula done moves line stage false many all few on is e = absurd (no_refusal e)

end_accepted : (formula : Formula) (done moves : List Move) (line : ℕ) → Reached formula done → at_end formula done line ≡ plan moves
    → IsAdmissible formula moves
end_accepted formula done moves line on e =
    ends formula done moves line on.stage (all_pushed on.stage.pushed (length formula.clauses))
    (nat_lt 1 (length on.stage.stack)) refl refl on refl
    (sym (ap (λ o. behind (unless (option_and_then (fault_at_end formula) o) (Ok done)) line plan) on.possible) ∙ e)

-- a line that is ended
behind_accepted : (formula : Formula) (r : Result (List Move) PlanKind) (line : ℕ) (moves : List Move) (rest : List Move → ScheduleText)
    → ((later : List Move) → r ≡ Ok later → Reached formula later)
    → ((later : List Move) → Reached formula later → rest later ≡ plan moves → IsAdmissible formula moves) → behind r line rest ≡ plan moves
    → IsAdmissible formula moves
behind_accepted formula (Ok done) line moves rest reached goes e = goes done (reached done refl) e
behind_accepted formula (Err kind) line moves rest reached goes e = absurd (no_refusal e)

row_accepted : (formula : Formula) (row : Row) (done moves : List Move) (rest : List Move → ScheduleText) (has : Bool)
    → Reached formula done
    → ((later : List Move) → Reached formula later → rest later ≡ plan moves → IsAdmissible formula moves)
    → (if has then behind (line_taken formula done (moves_of_words row.words)) row.line rest else rest done) ≡ plan moves
    → IsAdmissible formula moves
row_accepted formula row done moves rest true on goes e =
    behind_accepted formula (line_taken formula done (moves_of_words row.words)) row.line moves rest
    (λ later is. line_reached formula (moves_of_words row.words) done later on is) goes e
row_accepted formula row done moves rest false on goes e = goes done on e

limit_refused : (formula : Formula) (row : Row) (done moves : List Move) (late : Bool) → Reached formula done
    → (if late then row_then formula row done (λ later. overlong) else overlong) ≡ plan moves → IsAdmissible formula moves
limit_refused formula row done moves true on e = row_accepted formula row done moves (λ later. overlong) (has_words row.words) on
    (λ later again no. absurd (no_overlong no)) e
limit_refused formula row done moves false on e = absurd (no_overlong e)

next_accepted : (formula : Formula) (row : Row) (done moves : List Move) (same : Bool) (goes_on : ScheduleText) (rest : List Move
    → ScheduleText) → Reached formula done
    → (goes_on ≡ plan moves → IsAdmissible formula moves) → ((later : List Move) → Reached formula later → rest later ≡ plan moves
    → IsAdmissible formula moves)
    → (if same then goes_on else row_then formula row done rest) ≡ plan moves → IsAdmissible formula moves
next_accepted formula row done moves true goes_on rest on first second e = first e
next_accepted formula row done moves false goes_on rest on first second e = row_accepted formula row done moves rest
    (has_words row.words) on second e

after_accepted : (formula : Formula) (its : Items) (row : Row) (done moves : List Move) → Reached formula done
    → schedule_after formula its row done ≡ plan moves → IsAdmissible formula moves
after_accepted formula (the_end line) row done moves on e =
    row_accepted formula row done moves (λ later. at_end formula later line) (has_words row.words) on
    (λ later again is. end_accepted formula later moves line again is) e
after_accepted formula (too_long line) row done moves on e = limit_refused formula row done moves (nat_lt row.line line) on e
after_accepted formula (next_word word its) row done moves on e =
    next_accepted formula row done moves (has_words row.words && row.line == word.line)
    (schedule_after formula its (row_with row word) done)
    (λ later. schedule_after formula its (row_of_word word) later) on
    (λ is. after_accepted formula its (row_with row word) done moves on is)
    (λ later again is. after_accepted formula its (row_of_word word) later moves again is) e

pub accepted_schedule : (formula : Formula) (bytes : List ℕ) (moves : List Move) → schedule formula bytes ≡ plan moves
    → IsAdmissible formula moves
accepted_schedule formula bytes moves e = after_accepted formula (items 35 max_bytes bytes) no_row [] moves (reached_none formula) e
