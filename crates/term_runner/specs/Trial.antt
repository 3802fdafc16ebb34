-- What a trial of a plan tells.
use Rattle.std.specs.Prelude.{◌≡◌, ◌≤◌, ℕ, List, length}
use Rattle.cnf_base.specs.Formula.{Formula}
use Rattle.schedule_plan.specs.declared.plan.Move.{Move}
use Rattle.schedule_plan.specs.declared.limits.Limits.{Limits}
use Rattle.term_runner.specs.declared.outcome.Outcome.{Outcome}
use Rattle.term_runner.specs.declared.outcome.Outcome.TheVariants.{Unsat, Sat, NodeLimit, IdLimit}
use Rattle.term_runner.specs.declared.trial.Trial.{Trial}
use Rattle.term_runner.specs.declared.trial.TrialEnd.{TrialEnd}
use Rattle.term_runner.specs.declared.trial.TrialEnd.TheVariants as end
use Rattle.term_runner.specs.Ends.{HasLast, Says}

-- what a trial tells of an outcome
abbrev pub end_of : Outcome → TrialEnd
end_of Unsat = end.Decided
end_of (Sat values) = end.Decided
end_of NodeLimit = end.NodeLimit
end_of IdLimit = end.IdLimit

-- The trial tells of a run of the plan over the order, within the limits: how it ended, by an outcome that is true of the formula and the
-- plan. The moves that were done are some of the plan's, and those until half of the numbers were used are some of them.
pub record IsTrial (formula : Formula) (order : List ℕ) (plan : List Move) (limits : Limits) (trial : Trial) : Type 0 where
  pub outcome : Outcome
  pub ended : trial.end ≡ end_of outcome
  pub says : Says formula order plan limits outcome
  pub last : HasLast formula limits (record { outcome = outcome; last_id = trial.last_id })
  pub moves : trial.moves ≤ length plan
  pub at_half : trial.moves_at_half ≤ trial.moves
