-- What the loops of `set_all_back` keep.
use Rattle.std.proofs.Common.{◌≡◌, ◌≤◌, length, reverse, take}
use Rattle.cnf_base.specs.Truth.{assignment_of}
use Rattle.clause_terms.specs.Walk.{AreAlike}
use Rattle.reconstruction.specs.SetBack.{set_cells_back}
use Rattle.reconstruction.specs.Walker.{IsWalker}
use Rattle.reconstruction.proofs.restore.set_all_back.Given as goal

abbrev pub invariant-back : goal.invariant-back
invariant-back l = record {
  walker : IsWalker l.walker;
  within : l.left ≤ length l.entries;
  one_each : length l.values ≡ length l.fn.values;
  rest : AreAlike (set_cells_back l.cells (assignment_of l.values) (reverse (take l.left l.entries)))
      (set_cells_back l.cells (assignment_of l.fn.values) (reverse l.entries));
}

abbrev pub decreases-back : goal.decreases-back
decreases-back l = l.left
