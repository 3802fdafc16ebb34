-- What is left to show of `remove_kept`.
use Rattle.std.proofs.Common.{Option, subst}
use Rattle.std.specs.Prelude.{IfSome}
use Rattle.clause_ledger.specs.Kept.{KeptClauses, AreKept}
use Rattle.clause_ledger.proofs.kept.remove_kept.Goals as goal

pub returns-in-Some-clause-kept : goal.returns-in-Some-clause-kept
returns-in-Some-clause-kept c state are =
    c.remove_all.ensures.kept state (subst (λ (o : Option KeptClauses). IfSome o (AreKept state)) c.in-Some.is are)
