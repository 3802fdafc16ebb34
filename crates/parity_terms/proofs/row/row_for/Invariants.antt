-- What the loop of `row_for` keeps.
use Rattle.std.proofs.Common.{ℕ, ◌<◌}
use Rattle.std.specs.Prelude.{slice_index_or}
use Rattle.parity_terms.specs.Order.{HaveSameFirst}
use Rattle.parity_terms.proofs.row.row_for.Given as goal

abbrev pub invariant-rows : goal.invariant-rows
invariant-rows l =
    (k : ℕ) → k < l.place → HaveSameFirst (slice_index_or l.rows k l.current).variables.items l.current.variables.items → ⊥
