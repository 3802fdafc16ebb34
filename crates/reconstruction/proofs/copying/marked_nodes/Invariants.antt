-- What the loops of `marked_nodes` keep.
use Rattle.reconstruction.proofs.Wanted.{AreMarkedBelow}
use Rattle.reconstruction.proofs.copying.marked_nodes.Given as goal

abbrev pub invariant-keys : goal.invariant-keys
invariant-keys g l = AreMarkedBelow l.table.graph l.marks l.copies l.uncopied.items l.index
