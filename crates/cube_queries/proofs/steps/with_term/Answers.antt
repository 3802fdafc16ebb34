-- What is left to show of `with_term`.
use Rattle.std.proofs.Common.{◌&&◌}
use Rattle.schedule_plan.specs.Plan.{input as input_term, term_holds}
use Rattle.bdd_terms.specs.Runner.{holds_in}
use Rattle.node_table.specs.HandedOn.{no_error}
use Rattle.cube_queries.proofs.Alone.{alone_good}
use Rattle.cube_queries.proofs.Costed.{costs_handed, costs_with, costs_without}
use Rattle.cube_queries.proofs.Joined.{given_good, over_behind, over_handed, over_none}
use Rattle.cube_queries.proofs.Taken.{costs_of, taken}
use Rattle.cube_queries.proofs.Whole.{clause_open}
use Rattle.cube_queries.proofs.steps.with_term.Goals as goal

pub returns-in_err-clause-clause-takes : goal.returns-in_err-clause-clause-takes
returns-in_err-clause-clause-takes g c =
    over_handed c.args.runner.now.terms.out.items _ c.args.runner.now c.term.new.self c.in_err-clause.field-0.0 _
    c.from_residual.ensures.1
    (over_none c.args.runner.now c.term.new.self _ _ c.in_err-clause.field-0.0 (taken _ c.args.runner.now c.term.new.self _ c.in_err-clause.ensures.takes))

pub both_into-requires-clause-runner : goal.both_into-requires-clause-runner
both_into-requires-clause-runner g c = c.in_ok-clause.ensures.takes.goes_on no_error

pub both_into-requires-clause-first : goal.both_into-requires-clause-first
both_into-requires-clause-first g c =
    (c.in_ok-clause.ensures.takes.keeps no_error).good c.args.term.now.held
    (alone_good c.args.runner.now c.args.term.now.held c.requires.alone)

pub both_into-requires-clause-second : goal.both_into-requires-clause-second
both_into-requires-clause-second g c =
    given_good c.args.runner.now c.term.new.self c.in_ok-clause.clause.held c.in_ok-clause.ensures.takes.listed

pub returns-clause-takes : goal.returns-clause-takes
returns-clause-takes g c =
    let good = alone_good c.args.runner.now c.args.term.now.held c.requires.alone in
    over_behind c.steps_law.ensures c.args.runner.now c.term.new.self c.both_into.new.runner c.args.runner.now.terms.out.items _
    c.in_ok-clause.clause (taken _ c.args.runner.now c.term.new.self _ c.in_ok-clause.ensures.takes)
    (clause_open c.args.runner.now c.term.new.self c.in_ok-clause.clause.held c.args.number c.requires.some c.in_ok-clause.ensures.takes.value)
    (λ a. holds_in c.args.runner.now c.args.term.now.held a && term_holds c.args.runner.now.formula.now a (input_term c.args.number))
    (λ a. holds_in c.term.new.self c.args.term.now.held a && holds_in c.term.new.self c.in_ok-clause.clause.held a)
    (λ a i. (c.in_ok-clause.ensures.takes.keeps no_error).values c.args.term.now.held good a i && c.in_ok-clause.ensures.takes.value a i)
    c.both_into.result
    (c.both_into.ensures.takes c.args.runner.now.terms.out.items c.requires.alone c.in_ok-clause.ensures.takes.listed)

pub returns-in_err-clause-clause-costs : goal.returns-in_err-clause-clause-costs
returns-in_err-clause-clause-costs g c =
    costs_handed c.args.runner.now c.term.new.self 2 _ c.in_err-clause.field-0.0 _ c.from_residual.ensures.1
    (costs_without c.args.runner.now c.term.new.self c.args.term.now.held c.args.number c.requires.alone _
    (costs_of _ c.args.runner.now c.term.new.self _ c.in_err-clause.ensures.costs))

pub returns-clause-costs : goal.returns-clause-costs
returns-clause-costs g c =
    let takes = taken _ c.args.runner.now c.term.new.self _ c.in_ok-clause.ensures.takes in
    costs_with c.counting_law.ensures c.args.runner.now c.term.new.self c.both_into.new.runner c.args.term.now.held
    c.in_ok-clause.clause.held c.args.number c.requires.runner (takes.goes_on no_error) c.requires.alone
    (alone_good c.args.runner.now c.args.term.now.held c.requires.alone)
    (given_good c.args.runner.now c.term.new.self c.in_ok-clause.clause.held takes.listed) takes.listed (takes.keeps no_error)
    takes.goes.order takes.goes.limits takes.value _ (costs_of _ c.args.runner.now c.term.new.self _ c.in_ok-clause.ensures.costs) c.both_into.ensures.costs
