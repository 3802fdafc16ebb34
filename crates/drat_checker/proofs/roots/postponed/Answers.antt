-- The clauses watch what they watched.
use Rattle.drat_checker.proofs.Fewer.{kept-postponed}
use Rattle.drat_checker.proofs.roots.postponed.Goals as goal

pub returns-in-Ok : goal.returns-in-Ok
returns-in-Ok c = λ places trail.
    kept-postponed c.args.roots places c.args.kept.now c.postpone.new.self trail c.in-Ok.ensures.pairs (c.in-Ok.ensures.watched places)
