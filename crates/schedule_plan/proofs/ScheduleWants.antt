-- A move that is taken, or for which memory was wanted, has no fault.
use Rattle.std.proofs.Common.{◌≡◌, ℕ, ◌<◌, List, [], ◌∷◌, ◌++◌, length, map, drop, None, Some, Ok, IsTrue, refl, sym, ap, subst, ◌∙◌}
use Rattle.std.specs.Prelude.{is_none, slice_index_or}
use Rattle.std.specs.Option.{option_and_then}
use Rattle.cnf_base.specs.Formula.{Formula}
use Rattle.schedule_plan.specs.declared.plan.Move.{Move}
use Rattle.schedule_plan.specs.Plan.{Stage, no_stage, after_moves}
use Rattle.schedule_plan.specs.ScheduleText.{fault_of_move, fault_behind, unless, taken}
use Rattle.schedule_plan.specs.ScheduleMemory.{moves_may_want_memory}
use Rattle.schedule_plan.proofs.Standing.{err_ok}
use Rattle.schedule_plan.proofs.TakesError.{drop_first}

pub free_behind : (formula : Formula) (done : List Move) (stage : Stage) (move : Move) → after_moves formula no_stage done ≡ Some stage
    → fault_of_move formula stage move ≡ None → fault_behind formula done move ≡ None
free_behind formula done stage move possible free = ap (option_and_then (λ s. fault_of_move formula s move)) possible ∙ free

pub taken_free : (formula : Formula) (done later : List Move) (move : Move) → taken formula done (move ∷ []) ≡ Ok later
    → fault_behind formula done move ≡ None
taken_free formula done later move first =
    elim (fault_behind formula done move) as (λ f. unless f (Ok (done ++ move ∷ [])) ≡ Ok later → f ≡ None) [
      | None ↦ λ e. refl
      | Some kind ↦ λ e. absurd (err_ok e)
    ] first

-- the first of the moves that are left
pub first_left : (formula : Formula) (done : List Move) (move : ℕ → Move) (xs : List ℕ) (k : ℕ) → k < length xs
    → fault_behind formula done (move (slice_index_or xs k 0)) ≡ None
    → IsTrue (moves_may_want_memory formula done (map move (drop k xs)))
first_left formula done move xs k small free =
    subst (λ (l : List ℕ). IsTrue (moves_may_want_memory formula done (map move l))) (sym (drop_first xs k 0 small)) (ap is_none free)
