-- What the loop of `raise` keeps.
use Rattle.std.proofs.Common.{◌≡◌, length}
use Rattle.node_table.specs.declared.node.Node.{Node}
use Rattle.node_table.specs.declared.node.Node.TheVariants.{True}
use Rattle.node_table.specs.Diagram.{is_node, levels}
use Rattle.std.proofs.Common.{drop, true}
use Rattle.cube_models.specs.Way.{IsDown, Leads, levels_of, next_in}
use Rattle.cube_models.proofs.values.raise.Given as goal

abbrev pub invariant-nodes : goal.invariant-nodes
invariant-nodes g l = record {
  one_each : length l.values.items ≡ levels l.table.graph;
  down : (first : Node) → is_node l.table.graph first ≡ true
      → Leads l.table.graph (next_in l.table.graph l.signs l.marks l.round) first l.path True
      → (node : Node) × (Leads l.table.graph (next_in l.table.graph l.signs l.marks l.round) node (drop l.key-index l.path) True
      × IsDown l.table.graph l.signs (levels_of l.table.graph l.values.items) first node);
}
