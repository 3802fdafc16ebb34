-- The second literal is the clause's first one, and the first another one of it.
use Rattle.std.proofs.Common.{refl}
use Rattle.drat_checker.proofs.Picked.{all-copies-short}
use Rattle.drat_checker.proofs.watches.two_of.Goals as goal

pub returns-in-None-clause-short : goal.returns-in-None-clause-short
returns-in-None-clause-short c = λ is. all-copies-short c.second-item.result c.args.clause.now (c.in-None.ensures.none refl)
