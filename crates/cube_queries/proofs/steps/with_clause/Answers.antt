-- What is left to show of `with_clause`.
use Rattle.cube_queries.proofs.Costed.{costs_released}
use Rattle.cube_queries.proofs.Joined.{first_released, over_good, over_runner}
use Rattle.cube_queries.proofs.steps.with_clause.Goals as goal

pub release-requires-clause-runner : goal.release-requires-clause-runner
release-requires-clause-runner g c on =
    over_runner c.args.runner.now c.with_term-both.new.runner c.args.runner.now.terms.out.items _ c.with_term-both.result
    c.with_term-both.ensures.takes on

pub release-requires-clause-good : goal.release-requires-clause-good
release-requires-clause-good g c on =
    over_good c.args.runner.now c.with_term-both.new.runner c.args.runner.now.terms.out.items _ c.with_term-both.result
    c.with_term-both.ensures.takes on c.args.term.held c.requires.alone

pub returns-clause-takes : goal.returns-clause-takes
returns-clause-takes g c =
    first_released c.steps_law.ensures c.args.runner.now c.with_term-both.new.runner c.release.new.self c.args.term.held
    c.args.runner.now.terms.out.items c.requires.alone _ c.release.ensures.releases c.release.ensures.torn c.with_term-both.result
    c.with_term-both.ensures.takes

pub returns-clause-costs : goal.returns-clause-costs
returns-clause-costs g c =
    costs_released c.with_term-both.new.runner c.release.new.self c.args.term.held c.release.ensures.releases c.release.ensures.torn
    c.args.runner.now 2 _ _ c.with_term-both.ensures.costs
