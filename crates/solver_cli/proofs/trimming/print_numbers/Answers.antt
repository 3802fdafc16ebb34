-- What is left to show of `print_numbers`.
use Rattle.std.proofs.Common.{rules}
use Rattle.solver_cli.proofs.Puts.{cut_short}
use Rattle.solver_cli.proofs.trimming.print_numbers.Goals as goal

pub returns-in_err-write-clause-puts : goal.returns-in_err-write-clause-puts
returns-in_err-write-clause-puts g c = cut_short c.from_residual.result c.in_err-write.ensures.writes (search rules)
