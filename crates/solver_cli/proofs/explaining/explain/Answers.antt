-- What is left to show of `explain`.
use Rattle.std.proofs.Common.{refl}
use Rattle.solver_cli.proofs.Commented.{told_where, untold}
use Rattle.solver_cli.proofs.explaining.explain.Goals as goal

pub returns-then-is_asked-clause-told : goal.returns-then-is_asked-clause-told
returns-then-is_asked-clause-told g c = told_where c.is_explained-is_asked.ensures c.if-is_asked.true c.put_reasons.ensures.told

pub returns-else-is_asked-clause-told : goal.returns-else-is_asked-clause-told
returns-else-is_asked-clause-told g c = untold _ refl
