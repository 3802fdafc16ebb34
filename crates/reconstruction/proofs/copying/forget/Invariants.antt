-- What the loops of `forget` keep.
use Rattle.std.proofs.Common.{◌≡◌, ◌<◌, ◌≤◌, ℕ, length}
use Rattle.std.specs.Prelude.{slice_index_or, if◌then◌else◌}
use Rattle.node_table.specs.Diagram.{is_node}
use Rattle.node_table.specs.Made.{inner}
use Rattle.reconstruction.proofs.copying.forget.Given as goal

abbrev pub invariant-keys : goal.invariant-keys
invariant-keys g l = record {
  done : (key : ℕ) → key < l.key → slice_index_or l.copies.items key 0
      ≡ (if is_node l.table.graph (inner key) then slice_index_or l.fn.copies.items key 0 else 0);
  rest : (key : ℕ) → l.key ≤ key → slice_index_or l.copies.items key 0 ≡ slice_index_or l.fn.copies.items key 0;
  places : length l.copies.items ≡ length l.fn.copies.items;
}
