-- What the loops of `walk` keep.
use Rattle.std.proofs.Common.{◌≡◌, ◌-◌, length}
use Rattle.node_table.specs.Diagram.{levels, level_of}
use Rattle.clause_terms.specs.Walk.{IsDown, levels_of}
use Rattle.clause_terms.proofs.recovery.walk.Given as goal

abbrev pub invariant-down : goal.invariant-down
invariant-down g l = (length l.values.items ≡ levels l.table.graph)
    × IsDown l.table.graph (levels_of l.table.graph l.values.items) l.fn.node l.node

abbrev pub decreases-down : goal.decreases-down
decreases-down g l = levels l.table.graph - level_of l.table.graph l.node
