-- What is left to show of `print_part`.
use Rattle.std.proofs.Common.{rules}
use Rattle.solver_cli.proofs.Puts.{cut_short}
use Rattle.solver_cli.proofs.made.print_part.Goals as goal

pub returns-in_err-write_part-clause-puts : goal.returns-in_err-write_part-clause-puts
returns-in_err-write_part-clause-puts g c = cut_short c.from_residual.result c.in_err-write_part.ensures.writes (search rules)
