-- What is left to show of `print_order`.
use Rattle.std.proofs.Common.{rules}
use Rattle.solver_cli.proofs.Puts.{cut_short}
use Rattle.solver_cli.proofs.arrangement.print_order.Goals as goal

pub returns-in_err-write_order-clause-puts : goal.returns-in_err-write_order-clause-puts
returns-in_err-write_order-clause-puts g c = cut_short c.from_residual.result c.in_err-write_order.ensures.writes (search rules)
