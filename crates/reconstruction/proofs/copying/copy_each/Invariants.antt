-- What the loops of `copy_each` keep.
use Rattle.reconstruction.proofs.Each.{AreDone}
use Rattle.reconstruction.proofs.copying.copy_each.Given as goal

abbrev pub invariant-nodes : goal.invariant-nodes
invariant-nodes g l = AreDone l.table.graph l.fn.cells.items l.fn.copies.items l.uncopied l.place l.cells.items l.copies.items
