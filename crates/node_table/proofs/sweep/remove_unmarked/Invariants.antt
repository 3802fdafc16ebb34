-- What the loops of `remove_unmarked` keep.
use Rattle.std.proofs.Common.{◌≡◌, ℕ, vec_capacity}
use Rattle.node_table.specs.declared.stored.StoredNode.{StoredNode}
use Rattle.node_table.proofs.Sweeping.{IsSweeping}
use Rattle.node_table.proofs.sweep.remove_unmarked.Given as goal

abbrev pub invariant-keys : goal.invariant-keys
invariant-keys l = record {
  sweeping : IsSweeping (λ (entry : ℕ × StoredNode). entry.1.variable) l.marks l.fn.nodes l.nodes l.fn.freed.items l.freed.items l.key;
  capacity : vec_capacity l.freed ≡ vec_capacity l.fn.freed;
}
