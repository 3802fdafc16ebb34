-- What the loops of `Diagram::value` keep.
use Rattle.std.proofs.Common.{◌≡◌, ◌-◌, true}
use Rattle.cnf_base.specs.Truth.{assignment_of}
use Rattle.node_table.specs.Diagram.{is_node, levels, level_of}
use Rattle.node_table.specs.Value.{value_of, by_level}
use Rattle.node_table.proofs.diagram.Diagram.value.Given as goal

abbrev pub invariant-down : goal.invariant-down
invariant-down l = (is_node l.self l.node ≡ true) × (value_of l.self (by_level l.self.order (assignment_of l.values)) l.node
    ≡ value_of l.self (by_level l.self.order (assignment_of l.values)) l.fn.node)

abbrev pub decreases-down : goal.decreases-down
decreases-down l = levels l.self - level_of l.self l.node
