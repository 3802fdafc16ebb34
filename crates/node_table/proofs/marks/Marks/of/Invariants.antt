-- What the loops of `Marks::of` keep.
use Rattle.std.proofs.Common.{take, None}
use Rattle.node_table.specs.Marking.{marking}
use Rattle.node_table.proofs.Marked.{IsMarking, AreMarked, left}
use Rattle.node_table.proofs.marks.Marks.of.Given as goal

abbrev pub invariant-roots : goal.invariant-roots
invariant-roots l = record {
  known : IsMarking l.diagram l.roots None (marking l.marked.items l.waiting.items);
  roots : AreMarked l.marked.items (take l.root-index l.roots);
}

abbrev pub invariant-nodes : goal.invariant-nodes
invariant-nodes l = record {
  known : IsMarking l.diagram l.roots None (marking l.marked.items l.waiting.items);
  roots : AreMarked l.marked.items l.roots;
}

abbrev pub decreases-nodes : goal.decreases-nodes
decreases-nodes l = left (marking l.marked.items l.waiting.items)
