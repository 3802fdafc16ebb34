-- What is left to show of `bucket_plan`.
use Rattle.plan_search.proofs.trial.bucket_plan.Goals as goal

pub returns-clause-plan : goal.returns-clause-plan
returns-clause-plan c = record {
  elimination = c.args.elimination.now;
  order = c.as_slice.ensures.order;
  variables = c.requires;
  moves = c.in_ok-plan.ensures.moves;
  admissible = c.in_ok-plan.ensures.admissible;
}

pub returns-clause-moves : goal.returns-clause-moves
returns-clause-moves c = c.in_ok-plan.ensures.moves
