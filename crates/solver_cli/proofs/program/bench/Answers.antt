-- What is left to show of `bench`.
use Rattle.std.proofs.Common.{refl}
use Rattle.solver_cli.proofs.Commented.{untold}
use Rattle.solver_cli.proofs.program.bench.Goals as goal

pub returns-in-Err-clause-told : goal.returns-in-Err-clause-told
returns-in-Err-clause-told g c = untold c.args.asked.now.progress refl
