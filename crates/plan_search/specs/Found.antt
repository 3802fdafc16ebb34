-- What a search finds: an order of the diagrams, and the bucket plan of an order.
use Rattle.std.specs.Prelude.{◌≡◌, ℕ, List, Option, None, Some, length, min, ◌+◌}
use Rattle.cnf_base.specs.Formula.{Formula}
use Rattle.cnf_base.specs.Order.{IsOrder}
use Rattle.schedule_plan.specs.Bucket.{bucket}
use Rattle.schedule_plan.specs.Plan.{IsAdmissible}
use Rattle.schedule_plan.specs.declared.plan.Move.{Move}
use Rattle.schedule_plan.specs.declared.limits.Limits.{Limits}
use Rattle.term_runner.specs.declared.trial.Trial.{Trial}
use Rattle.term_runner.specs.declared.trial.TrialEnd.TheVariants.{Decided}
use Rattle.term_runner.specs.Trial.{IsTrial}

-- The moves are the bucket plan over some order of the formula's variables, and admissible.
pub record IsBucketPlan (problem : Formula) (plan : List Move) : Type 0 where
  pub elimination : List ℕ
  pub order : IsOrder elimination
  pub variables : length elimination ≡ problem.vars
  pub moves : plan ≡ bucket problem elimination
  pub admissible : IsAdmissible problem plan

-- the moves are the bucket plan over this order, which is made
abbrev pub IsPlanBy : Formula → Option (List ℕ) → List Move → Type 0
IsPlanBy problem None plan = ⊥
IsPlanBy problem (Some elimination) plan = plan ≡ bucket problem elimination

-- the limits of a trial that may use so many clause numbers above the formula's: never a number above the greatest allowed
abbrev pub limits_of_trial : Formula → ℕ → Limits → Limits
limits_of_trial problem above limits = record limits { max_ids = min (length problem.clauses + above) limits.max_ids }

-- the trial is one of this plan over this order, which is made
abbrev pub IsTrialBy : Formula → Option (List ℕ) → List Move → Limits → Trial → Type 0
IsTrialBy problem None plan limits trial = ⊥
IsTrialBy problem (Some order) plan limits trial = IsTrial problem order plan limits trial

-- A trial of these moves over this order, which might use some clause numbers, decided the formula.
pub record WasDecided (problem : Formula) (limits : Limits) (order : List ℕ) (moves : List Move) : Type 0 where
  pub above : ℕ
  pub trial : Trial
  pub is : IsTrial problem order moves (limits_of_trial problem above limits) trial
  pub decided : trial.end ≡ Decided

-- the same over this order, which is made
abbrev pub WasDecidedBy : Formula → Limits → Option (List ℕ) → List Move → Type 0
WasDecidedBy problem limits None moves = ⊥
WasDecidedBy problem limits (Some order) moves = WasDecided problem limits order moves

-- The order has the formula's variables, and the moves are a bucket plan.
pub record IsFound (problem : Formula) (order : List ℕ) (moves : List Move) : Type 0 where
  pub variables : length order ≡ problem.vars
  pub plan : IsBucketPlan problem moves
