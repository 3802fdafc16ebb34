-- What the loop of `take_equation` keeps.
use Rattle.std.proofs.Common.{◌-◌, ◌*◌, ℕ, List, length}
use Rattle.parity_equations.specs.Walk.{listed}
use Rattle.parity_terms.proofs.EquationTaken.{IsCurrent, first_place}
use Rattle.parity_terms.proofs.elimination.take_equation.Given as goal
use Rattle.parity_terms.specs.Limit.{AreOf, AreRowsOf}
use Rattle.parity_terms.proofs.EquationBounds.{IsCounted}

abbrev pub invariant-rows : goal.invariant-rows
invariant-rows g l = record {
  current : IsCurrent l.places l.rows.items (listed l.equation) l.fn.runner l.runner l.current;
  counted : (all : List ℕ) → AreRowsOf all l.rows.items → AreOf all l.equation.variables.items
      → IsCounted l.places all (2 * length l.equation.clauses.items) l.rows.items l.fn.runner l.runner l.current;
}

abbrev pub decreases-rows : goal.decreases-rows
decreases-rows g l = length l.places - first_place l.places l.current.variables.items
