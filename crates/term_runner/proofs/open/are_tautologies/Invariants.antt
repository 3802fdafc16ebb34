-- What the loops of `are_tautologies` keep.
use Rattle.std.proofs.Common.{◌≡◌, true, take}
use Rattle.std.specs.List.{list_all}
use Rattle.term_runner.specs.Clauses.{is_tautology}
use Rattle.term_runner.proofs.open.are_tautologies.Given as goal

abbrev pub invariant-loop-i : goal.invariant-loop-i
invariant-loop-i l = list_all is_tautology (take l.i l.formula.clauses) ≡ true
