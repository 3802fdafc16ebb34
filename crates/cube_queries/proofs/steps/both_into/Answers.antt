-- What is left to show of `both_into`.
use Rattle.cube_queries.proofs.Costed.{costs_released}
use Rattle.cube_queries.proofs.Joined.{runner_behind, good_behind, second_released}
use Rattle.cube_queries.proofs.Taken.{costs_both, taken}
use Rattle.cube_queries.proofs.steps.both_into.Goals as goal

pub release-requires-clause-runner : goal.release-requires-clause-runner
release-requires-clause-runner g c on =
    runner_behind c.args.runner.now c.meet-both.new.self _ c.meet-both.result (taken _ c.args.runner.now c.meet-both.new.self c.meet-both.result c.meet-both.ensures.takes) on

pub release-requires-clause-good : goal.release-requires-clause-good
release-requires-clause-good g c on =
    good_behind c.args.runner.now c.meet-both.new.self _ c.meet-both.result (taken _ c.args.runner.now c.meet-both.new.self c.meet-both.result c.meet-both.ensures.takes) on c.args.v.held
    c.requires.second

pub returns-clause-takes : goal.returns-clause-takes
returns-clause-takes g c own alone listed =
    second_released c.steps_law.ensures c.args.runner.now c.meet-both.new.self c.release.new.self c.args.u.now.held own alone _
    c.args.v.held c.release.ensures.releases c.release.ensures.torn listed c.meet-both.result (taken _ c.args.runner.now c.meet-both.new.self c.meet-both.result c.meet-both.ensures.takes)

pub returns-clause-costs : goal.returns-clause-costs
returns-clause-costs g c =
    costs_released c.meet-both.new.self c.release.new.self c.args.v.held c.release.ensures.releases c.release.ensures.torn
    c.args.runner.now 1 _ _ (costs_both c.counting_law.ensures c.args.runner.now c.meet-both.new.self c.requires.runner c.args.u.now.held c.args.v.held
    c.requires.first c.requires.second _ c.meet-both.ensures.costs)
