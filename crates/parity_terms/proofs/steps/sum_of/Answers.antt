-- What is left to show of `sum_of`.
use Rattle.std.proofs.Common.{Ok, Err, refl, ap}
use Rattle.node_table.specs.declared.error.TableError.TheVariants.{NodeLimit}
use Rattle.node_table.specs.HandedOn.{came_from, no_error}
use Rattle.parity_nodes.specs.Sums.{sum_is}
use Rattle.parity_terms.proofs.Bounded.{bounded_by_node, bounded_torn_node}
use Rattle.parity_terms.proofs.Weaker.{goes, good_mid, not_refuted, takes_handed, takes_weaker, torn_node, torn_weaker}
use Rattle.parity_terms.proofs.steps.sum_of.Goals as goal

pub returns-in_err-node-clause-takes : goal.returns-in_err-node-clause-takes
returns-in_err-node-clause-takes g c terms owns =
    takes_handed terms (sum_is c.args.bit c.args.variables.now) c.args.runner.now c.parity.new.self c.in_err-node.field-0.0 _
    c.from_residual.ensures.1
    (torn_node c.cofactor_law.ensures c.steps_law.ensures c.args.runner.now c.parity.new.self terms owns c.args.variables.now c.args.bit
    c.in_err-node.field-0.0 c.in_err-node.ensures)

pub returns-in_err-node-clause-full : goal.returns-in_err-node-clause-full
returns-in_err-node-clause-full g c is =
    c.in_err-node.ensures.takes.full (ap Err (came_from _ c.in_err-node.field-0.0 NodeLimit c.from_residual.ensures.1 is))

pub returns-in_err-node-clause-bounds : goal.returns-in_err-node-clause-bounds
returns-in_err-node-clause-bounds g c terms owns =
    bounded_torn_node terms (sum_is c.args.bit c.args.variables.now) c.args.runner.now c.parity.new.self c.requires.runner owns
    c.in_err-node.field-0.0 c.in_err-node.ensures _ c.from_residual.ensures.1

pub weaken-requires-clause-runner : goal.weaken-requires-clause-runner
weaken-requires-clause-runner g c = c.in_ok-node.ensures.takes.goes_on no_error

pub weaken-requires-clause-good : goal.weaken-requires-clause-good
weaken-requires-clause-good g c =
    good_mid c.cofactor_law.ensures c.steps_law.ensures c.args.runner.now c.parity.new.self c.requires.owned.terms c.requires.owned.owns
    c.args.variables.now c.args.bit c.in_ok-node.node c.in_ok-node.ensures c.args.u.now.held c.requires.good

pub weaken-requires-clause-stands : goal.weaken-requires-clause-stands
weaken-requires-clause-stands g c = c.in_ok-node.ensures.node.stands

pub returns-in_err-found-clause-takes : goal.returns-in_err-found-clause-takes
returns-in_err-found-clause-takes g c terms owns =
    takes_handed terms (sum_is c.args.bit c.args.variables.now) c.args.runner.now c.weaken.new.self c.in_err-found.field-0.0 _
    c.from_residual-in_err-found.ensures.1
    (torn_weaker c.cofactor_law.ensures c.steps_law.ensures c.args.runner.now c.parity.new.self terms owns c.args.variables.now c.args.bit
    c.in_ok-node.node c.in_ok-node.ensures c.args.u.now.held c.requires.good c.weaken.new.self c.in_err-found.field-0.0
    c.in_err-found.ensures)

pub returns-in_err-found-clause-full : goal.returns-in_err-found-clause-full
returns-in_err-found-clause-full g c is =
    absurd (c.in_err-found.ensures.no_node_limit (ap Err (came_from _ c.in_err-found.field-0.0 NodeLimit
    c.from_residual-in_err-found.ensures.1 is)))

pub returns-in_err-found-clause-bounds : goal.returns-in_err-found-clause-bounds
returns-in_err-found-clause-bounds g c terms owns =
    bounded_by_node c.counting_law.ensures c.growth_law.ensures terms (sum_is c.args.bit c.args.variables.now) c.args.runner.now
    c.parity.new.self c.requires.runner owns c.in_ok-node.node c.in_ok-node.ensures
    (goes c.cofactor_law.ensures c.steps_law.ensures c.args.runner.now c.parity.new.self terms owns
    c.args.variables.now c.args.bit c.in_ok-node.node c.in_ok-node.ensures c.args.u.now.held c.requires.good) c.args.u.now.held
    c.weaken.new.self (Err c.in_err-found.field-0.0) c.in_err-found.ensures _
    (λ is. c.in_err-found.ensures.no_node_limit
    (ap Err (came_from _ c.in_err-found.field-0.0 NodeLimit c.from_residual-in_err-found.ensures.1 is)))

pub returns-clause-takes : goal.returns-clause-takes
returns-clause-takes g c terms owns =
    takes_weaker c.cofactor_law.ensures c.steps_law.ensures c.args.runner.now c.parity.new.self terms owns c.args.variables.now c.args.bit
    c.in_ok-node.node c.in_ok-node.ensures c.args.u.now.held c.requires.good c.weaken.new.self c.in-Some.term
    (rw c.in-Some.is at c.in_ok-found.ensures)

pub returns-clause-bounds : goal.returns-clause-bounds
returns-clause-bounds g c terms owns =
    bounded_by_node c.counting_law.ensures c.growth_law.ensures terms (sum_is c.args.bit c.args.variables.now) c.args.runner.now
    c.parity.new.self c.requires.runner owns c.in_ok-node.node c.in_ok-node.ensures
    (goes c.cofactor_law.ensures c.steps_law.ensures c.args.runner.now c.parity.new.self terms owns
    c.args.variables.now c.args.bit c.in_ok-node.node c.in_ok-node.ensures c.args.u.now.held c.requires.good) c.args.u.now.held
    c.weaken.new.self (Ok c.in_ok-found.found) c.in_ok-found.ensures _ (λ is. no_error is)

pub unreachable-requires : goal.unreachable-requires
unreachable-requires g c =
    not_refuted c.cofactor_law.ensures c.steps_law.ensures c.args.runner.now c.parity.new.self c.requires.owned.terms c.requires.owned.owns
    c.args.variables.now c.args.bit c.in_ok-node.node c.in_ok-node.ensures c.args.u.now.held c.requires.good c.requires.implies
    ((rw c.in_default.is at c.in_ok-found.ensures).none refl).0
