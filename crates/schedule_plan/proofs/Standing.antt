-- What the next move does, where the moves so far are possible.
use Rattle.std.proofs.Common.{◌≡◌, List, [], ◌∷◌, ◌++◌, None, Some, Result, Ok, Err, ap, ◌∙◌}
use Rattle.std.specs.Option.{option_and_then}
use Rattle.cnf_base.specs.Formula.{Formula}
use Rattle.schedule_plan.specs.declared.plan.Move.{Move}
use Rattle.schedule_plan.specs.declared.schedule.error.PlanKind.{PlanKind}
use Rattle.schedule_plan.specs.Plan.{Stage, no_stage, after_move, after_moves}
use Rattle.schedule_plan.specs.ScheduleText.{fault_of_move, fault_behind, unless, taken}
use Rattle.schedule_plan.proofs.Admissible.{append}

-- one move
pub refused : (formula : Formula) (done : List Move) (stage : Stage) (move : Move) (more : List Move) (kind : PlanKind)
    → after_moves formula no_stage done ≡ Some stage
    → fault_of_move formula stage move ≡ Some kind → taken formula done (move ∷ more) ≡ Err kind
refused formula done stage move more kind possible fault =
    ap (λ o. unless (option_and_then (λ s. fault_of_move formula s move) o) (taken formula (done ++ move ∷ []) more)) possible
    ∙ ap (λ f. unless f (taken formula (done ++ move ∷ []) more)) fault

pub accepted : (formula : Formula) (done : List Move) (stage : Stage) (move : Move) (more : List Move) → after_moves formula no_stage done
    ≡ Some stage
    → fault_of_move formula stage move ≡ None → taken formula done (move ∷ more) ≡ taken formula (done ++ move ∷ []) more
accepted formula done stage move more possible fault =
    ap (λ o. unless (option_and_then (λ s. fault_of_move formula s move) o) (taken formula (done ++ move ∷ []) more)) possible
    ∙ ap (λ f. unless f (taken formula (done ++ move ∷ []) more)) fault

pub possible_behind : (formula : Formula) (done : List Move) (stage later : Stage) (move : Move) → after_moves formula no_stage done
    ≡ Some stage
    → after_move formula stage move ≡ Some later → after_moves formula no_stage (done ++ move ∷ []) ≡ Some later
possible_behind formula done stage later move possible step =
    append formula no_stage done (move ∷ [])
    ∙ ap (option_and_then (λ s. after_moves formula s (move ∷ []))) possible
    ∙ ap (option_and_then (λ s. after_moves formula s [])) step

ok_same : {a b : List Move} → ◌≡◌ {A = Result (List Move) PlanKind} (Ok a) (Ok b) → a ≡ b
ok_same e = cc

pub err_ok : {a : PlanKind} {b : List Move} → ◌≡◌ {A = Result (List Move) PlanKind} (Err a) (Ok b) → ⊥
err_ok e = cc

ok_err : {a : List Move} {b : PlanKind} → ◌≡◌ {A = Result (List Move) PlanKind} (Ok a) (Err b) → ⊥
ok_err e = cc

-- the moves of a list one after another: the first decides, or the rest does
pub taken_first : (formula : Formula) (done later : List Move) (move : Move) (more : List Move) → taken formula done (move ∷ []) ≡ Ok later
    → taken formula done (move ∷ more) ≡ taken formula later more
taken_first formula done later move more first =
    elim (fault_behind formula done move) as (λ f. unless f (Ok (done ++ move ∷ [])) ≡ Ok later
    → unless f (taken formula (done ++ move ∷ []) more) ≡ taken formula later more) [
      | None ↦ λ e. ap (λ l. taken formula l more) (ok_same e)
      | Some kind ↦ λ e. absurd (err_ok e)
    ] first

pub taken_refused : (formula : Formula) (done : List Move) (move : Move) (more : List Move) (kind : PlanKind)
    → taken formula done (move ∷ []) ≡ Err kind
    → taken formula done (move ∷ more) ≡ Err kind
taken_refused formula done move more kind first =
    elim (fault_behind formula done move) as (λ f. unless f (Ok (done ++ move ∷ [])) ≡ Err kind
    → unless f (taken formula (done ++ move ∷ []) more) ≡ Err kind) [
      | None ↦ λ e. absurd (ok_err e)
      | Some other ↦ λ e. e
    ] first
