-- Where the reading of a schedule ends.
use Rattle.std.proofs.Common.{◌≡◌, ℕ, true, false, List, [], Option, Result, Err, sym, ◌∙◌, ap, subst, arith}
use Rattle.std.specs.Prelude.{nat_lt, if◌then◌else◌}
use Rattle.std.specs.Result.{IsErrAnd}
use Rattle.std.proofs.lemmas.Bool.Decides.{nat_tests}
use Rattle.cnf_base.specs.Formula.{Formula, IsFormula}
use Rattle.cnf_base.specs.Text.{Word}
use Rattle.text_scan.specs.Items.{items}
use Rattle.text_scan.specs.Scan.{Scan, so_far, is_reading, is_faulted, GivesSoFar, last_answer}
use Rattle.text_scan.specs.declared.scanner.ScanError.{ScanError}
use Rattle.text_scan.specs.declared.scanner.ScanError.TheVariants.{ReadFault as ScanFault}
use Rattle.schedule_plan.specs.declared.plan.Move.{Move}
use Rattle.schedule_plan.specs.declared.schedule.error.PlanError.{PlanError}
use Rattle.schedule_plan.specs.declared.schedule.error.PlanError.TheVariants.{Refused, ReadFault, TooLong, OutOfMemory}
use Rattle.schedule_plan.specs.ScheduleText.{ScheduleText, overlong, max_bytes, broken_off, schedule, behind}
use Rattle.schedule_plan.specs.ScheduleState.{Answers, Goes, DraftLine, no_draft, drafted, draft_taken}
use Rattle.schedule_plan.proofs.OrderJudged.{failed_status}
use Rattle.schedule_plan.proofs.Drafted.{drafted_same}
use Rattle.schedule_plan.proofs.TakesError.{error_is}

-- a whole text, by the line that is kept
pub whole : (formula : Formula) → IsFormula formula → (bytes : List ℕ) (text : ScheduleText)
    → drafted formula (items 35 max_bytes bytes) no_draft [] ≡ text → schedule formula bytes ≡ text
whole formula is bytes text same = sym (drafted_same formula is.count is.vars (items 35 max_bytes bytes)) ∙ same

-- a line that is refused, or want of memory
pub refused_answers : (r : Result (List Move) PlanError) (e : PlanError) (text before after : ScheduleText) → r ≡ Err e → text ≡ before
    → Goes {T = Unit {0}} (Err e) before after → Answers r text
refused_answers r (Refused kind line) text before after r_is text_is goes = subst (λ s. Answers s text) (sym r_is) (text_is ∙ goes)
refused_answers r ReadFault text before after r_is text_is goes = absurd goes
refused_answers r TooLong text before after r_is text_is goes = absurd goes
refused_answers r OutOfMemory text before after r_is text_is goes = subst (λ s. Answers s text) (sym r_is) tt

none_below : (n : ℕ) → nat_lt n 0 ≡ false
none_below n = grind (arith, nat_tests)

-- a failed read: the bytes since the last token give none
pub undecided_at : (formula : Formula) (old new : Scan) (bytes : List ℕ) (draft : DraftLine) (done : List Move) → is_faulted old.status
    ≡ false
    → (is_reading old.status ≡ false → ◌≡◌ {A = Result (Option Word) ScanError} (Err ScanFault) (last_answer old.status))
    → (is_reading old.status ≡ true → GivesSoFar (Err ScanFault) old new bytes) → (is_reading old.status ≡ true)
    × (drafted formula (broken_off (so_far old bytes)) draft done ≡ overlong)
undecided_at formula old new bytes draft done sound last gives =
    let reading = failed_status old.status sound last in (
      reading,
      ap (λ is. drafted formula (broken_off is) draft done) (gives reading)
          ∙ ap (λ b. if b then behind (draft_taken formula draft done) draft.line (λ later. overlong) else overlong)
          (none_below draft.line),
    )

-- want of memory is no failed read
pub no_fault : {T : Type 0} (r : Result T PlanError) → IsErrAnd r (λ f. f ≡ OutOfMemory) → r ≡ Err ReadFault → ⊥
no_fault r wanted failed = let memory : r ≡ Err OutOfMemory = error_is r OutOfMemory wanted in cc
