-- What is left to show of `print_trimmed`.
use Rattle.std.proofs.Common.{rules}
use Rattle.solver_cli.proofs.Puts.{cut_short}
use Rattle.solver_cli.proofs.verdict.print_trimmed.Goals as goal

pub returns-in_err-write_trimmed-clause-puts : goal.returns-in_err-write_trimmed-clause-puts
returns-in_err-write_trimmed-clause-puts g c = cut_short c.from_residual.result c.in_err-write_trimmed.ensures.writes (search rules)
