-- What is left to show of `natural_order`.
use Rattle.std.proofs.Common.{length, ap, ◌∙◌}
use Rattle.solver_cli.proofs.Decided.{length_natural}
use Rattle.solver_cli.proofs.order.natural_order.Goals as goal

pub returns-clause-one_each : goal.returns-clause-one_each
returns-clause-one_each c = ap length c.in_ok-order.ensures ∙ length_natural c.args.vars
