-- What the loops of `Holders::leave` keep.
use Rattle.std.specs.FinMap as map
use Rattle.lrat_checker.specs.Holders.{KeepsAllLive}
use Rattle.lrat_checker.proofs.holders.Holders.leave.Given as goal

abbrev pub invariant-loop-literal : goal.invariant-loop-literal
invariant-loop-literal l = KeepsAllLive (map.remove l.clauses l.gone) l.fn.self l.self
