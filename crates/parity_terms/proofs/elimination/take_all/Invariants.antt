-- What the loop of `take_all` keeps.
use Rattle.std.proofs.Common.{map, take}
use Rattle.parity_equations.specs.Walk.{listed}
use Rattle.parity_terms.proofs.AllTaken.{AreTaken}
use Rattle.parity_terms.proofs.elimination.take_all.Given as goal
use Rattle.parity_terms.proofs.AllBounds.{AreCounted}

abbrev pub invariant-equations : goal.invariant-equations
invariant-equations g l = record {
  taken : AreTaken l.places.items (map listed (take l.place l.equations.list.items)) l.rows.items l.fn.runner l.runner;
  counted : AreCounted l.equations.list.items l.place l.rows.items l.fn.runner l.runner;
}
