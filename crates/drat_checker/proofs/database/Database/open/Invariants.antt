-- The clauses so far.
use Rattle.std.proofs.Common.{◌≡◌, map, take, Some}
use Rattle.drat_checker.proofs.database.Database.open.Given as goal

abbrev pub invariant-loop-i : goal.invariant-loop-i
invariant-loop-i l = l.db ≡ map Some (take l.i l.formula.clauses)
