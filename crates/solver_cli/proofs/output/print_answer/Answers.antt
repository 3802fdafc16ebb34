use Rattle.std.proofs.Common.{rules}
use Rattle.solver_cli.proofs.Puts.{cut_short}
use Rattle.solver_cli.proofs.output.print_answer.Goals as goal

pub returns-in_err-write_ending-clause-puts : goal.returns-in_err-write_ending-clause-puts
returns-in_err-write_ending-clause-puts g c = cut_short c.from_residual.result c.in_err-write_ending.ensures.writes (search rules)
