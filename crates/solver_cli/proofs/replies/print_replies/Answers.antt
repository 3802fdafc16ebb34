-- What is left to show of `print_replies`.
use Rattle.std.proofs.Common.{rules}
use Rattle.solver_cli.proofs.Puts.{cut_short}
use Rattle.solver_cli.proofs.replies.print_replies.Goals as goal

pub returns-in_err-write_replies-clause-puts : goal.returns-in_err-write_replies-clause-puts
returns-in_err-write_replies-clause-puts g c = cut_short c.from_residual.result c.in_err-write_replies.ensures.writes (search rules)
