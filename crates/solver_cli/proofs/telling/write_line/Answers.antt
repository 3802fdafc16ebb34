-- What is left to show of `write_line`.
use Rattle.std.proofs.Common.{rules}
use Rattle.solver_cli.proofs.Puts.{cut_short}
use Rattle.solver_cli.proofs.telling.write_line.Goals as goal

pub returns-in_err-write_all-clause-puts : goal.returns-in_err-write_all-clause-puts
returns-in_err-write_all-clause-puts g c = cut_short c.from_residual.result c.in_err-write_all.ensures.writes (search rules)
