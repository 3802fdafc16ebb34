-- The clauses so far are watched.
use Rattle.std.proofs.Common.{take}
use Rattle.drat_checker.specs.Watches.{AreWatched}
use Rattle.drat_checker.proofs.watches.Watches.rebuild.Given as goal

abbrev pub invariant-loop-number : goal.invariant-loop-number
invariant-loop-number l = AreWatched l.self (take l.number l.db)
