-- What is left to show of `lrat_then_check_law`.
use Rattle.solver_cli.proofs.ConvertThenCheck.{lrat_ends}
use Rattle.solver_cli.proofs.laws.lrat_then_check_law.Goals as goal

pub returns : goal.returns
returns c = lrat_ends c.check_law.ensures.overlong
