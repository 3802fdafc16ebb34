-- What is left to show of `purge_law`.
use Rattle.operations.proofs.Purged.{purging}
use Rattle.operations.proofs.laws.purge_law.Goals as goal

pub returns : goal.returns
returns g c = purging c.entry_law.ensures c.kept_law.ensures c.clause_law.ensures.among
