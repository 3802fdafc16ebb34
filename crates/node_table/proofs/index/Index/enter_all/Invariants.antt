-- What the loops of `Index::enter_all` keep.
use Rattle.std.proofs.Common.{length}
use Rattle.node_table.proofs.IndexKeys.{IsPartOf}
use Rattle.node_table.proofs.index.Index.enter_all.Given as goal

abbrev pub invariant-entries : goal.invariant-entries
invariant-entries l = record {
  can : (goal.iterator-entries).can_next l.key-iterator;
  finite : (goal.iterator-entries).is_finite l.key-iterator;
  part : IsPartOf (length l.fn.self.places.items) l.self l.nodes l.key-iterator;
}
