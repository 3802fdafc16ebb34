-- What the loops of `delete_definitions` keep.
use Rattle.node_table.proofs.Deleting.{IsDeleting}
use Rattle.node_table.proofs.deletion.delete_definitions.Given as goal

abbrev pub invariant-keys : goal.invariant-keys
invariant-keys g l = IsDeleting l.fn.ledger l.ledger l.diagram l.marks l.ids.items l.index
