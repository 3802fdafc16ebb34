-- What the loop of `release_all` keeps.
use Rattle.std.proofs.Common.{◌≡◌, false, length}
use Rattle.std.specs.Prelude.{IsTrue}
use Rattle.parity_terms.proofs.AllReleased.{AreLeft}
use Rattle.parity_terms.proofs.elimination.release_all.Given as goal

abbrev pub invariant-rows : goal.invariant-rows
invariant-rows g l = record {
  left : IsTrue l.fn.runner.terms.table.book.in_step → AreLeft l.rows.items l.fn.runner l.runner;
  torn : l.fn.runner.terms.table.book.in_step ≡ false → l.runner ≡ l.fn.runner;
  top : l.runner.terms.table.book.state.top ≡ l.fn.runner.terms.table.book.state.top;
}

abbrev pub decreases-rows : goal.decreases-rows
decreases-rows g l = length l.rows.items
