-- What is left to show of `solve_then_check_law`.
use Rattle.solver_cli.proofs.SolveThenCheck.{ends}
use Rattle.solver_cli.proofs.laws.solve_then_check_law.Goals as goal

pub returns : goal.returns
returns c = ends c.check_law.ensures.overlong
