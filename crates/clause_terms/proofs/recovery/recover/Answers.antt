-- What is left to show of `recover`.
use Rattle.std.proofs.Common.{◌<◌, ◌≤◌, ℕ, Contains, List, sym, subst}
use Rattle.node_table.specs.declared.node.Node.{Node}
use Rattle.node_table.specs.Diagram.{levels}
use Rattle.clause_terms.proofs.recovery.recover.Goals as goal

pub set_all_back-requires-clause-variables : goal.set_all_back-requires-clause-variables
set_all_back-requires-clause-variables g c =
    subst (λ (trail : List (ℕ × Node)). (kept : ℕ × Node) → Contains trail kept → (0 < kept.0)
    × (kept.0 ≤ levels c.args.table.now.graph)) (sym c.as_slice.ensures) c.requires.variables
