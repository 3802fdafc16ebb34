-- What is left to show of `judge`.
use Rattle.std.proofs.Common.{rules}
use Rattle.solver_cli.proofs.Judging.{unopened, judged}
use Rattle.solver_cli.proofs.judgement.judge.Goals as goal

pub returns-then-is_err-clause-judges : goal.returns-then-is_err-clause-judges
returns-then-is_err-clause-judges g c = unopened c.open_read.ensures.opens (search rules)

pub returns-clause-judges : goal.returns-clause-judges
returns-clause-judges g c = judged c.open_read.ensures.opens (search rules) c.open_read.ensures.content c.check_opened.ensures.checks
