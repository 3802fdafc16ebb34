-- An error that was handed on.
use Rattle.std.proofs.Common.{◌≡◌, true, false, ℕ, ◌+◌, ◌<◌, List, ◌∷◌, length, drop, Result, Ok, Err, refl, sym, ap, subst, ◌∙◌}
use Rattle.std.specs.Prelude.{slice_index_or}
use Rattle.std.specs.Result.{IsErrAnd}
use Rattle.text_scan.specs.Scan.{Scan, is_reading}
use Rattle.std.proofs.lemmas.List.{drop_more}
use Rattle.schedule_plan.specs.declared.plan.Move.{Move}
use Rattle.schedule_plan.specs.declared.schedule.error.PlanKind.{PlanKind}
use Rattle.schedule_plan.specs.declared.schedule.error.PlanError.{PlanError}
use Rattle.schedule_plan.specs.declared.schedule.error.PlanError.TheVariants.{Refused, ReadFault, TooLong, OutOfMemory}
use Rattle.schedule_plan.specs.ScheduleState.{Takes}

pub error_is : {A E : Type 0} (r : Result A E) (e : E) → IsErrAnd r (λ f. f ≡ e) → r ≡ Err e
error_is (Ok value) e h = absurd h
error_is (Err f) e h = ap Err h

pub takes_error : {T : Type 0} (r : Result T PlanError) (e : PlanError) (first whole : Result (List Move) PlanKind) (line : ℕ)
    (done later : List Move) → r ≡ Err e
    → Takes {T = Unit {0}} (Err e) first line done → ((kind : PlanKind) → first ≡ Err kind → whole ≡ Err kind) → Takes r whole line later
takes_error {T} r (Refused kind at) first whole line done later is takes fails = subst (λ s. Takes s whole line later) (sym is)
    (fails kind takes.0, takes.1)
takes_error {T} r TooLong first whole line done later is takes fails = absurd takes
takes_error {T} r ReadFault first whole line done later is takes fails = absurd takes
takes_error {T} r OutOfMemory first whole line done later is takes fails = subst (λ s. Takes s whole line later) (sym is) tt

pub drop_first : (xs : List ℕ) (k d : ℕ) → k < length xs → drop k xs ≡ slice_index_or xs k d ∷ drop (k + 1) xs
drop_first xs k d small = drop_more xs k d small

-- a scanner that goes on reading was reading
pub was_reading : (old new : Scan) → (is_reading old.status ≡ false → new ≡ old) → is_reading new.status ≡ true → is_reading old.status
    ≡ true
was_reading old new stays reads = elim (is_reading old.status) as (λ b. is_reading old.status ≡ b → b ≡ true) [
  | true ↦ λ _. refl
  | false ↦ λ stopped. sym stopped ∙ ap (λ (scan : Scan). is_reading scan.status) (sym (stays stopped)) ∙ reads
] refl
