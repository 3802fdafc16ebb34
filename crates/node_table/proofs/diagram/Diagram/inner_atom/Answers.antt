-- What is left to show of `Diagram::inner_atom`.
use Rattle.std.proofs.Common.{rules, ◌≡◌, ℕ, ◌<◌, ◌≤◌, List, length, None, Some, ◌∙◌, ap, arith}
use Rattle.std.specs.Prelude.{vec_capacity}
use Rattle.slab.specs.Slab.{Slab}
use Rattle.node_table.specs.declared.node.Branch.{Branch}
use Rattle.node_table.specs.declared.node.Node.{Node}
use Rattle.node_table.specs.declared.node.Node.TheVariants.{False, True, Inner}
use Rattle.node_table.specs.declared.stored.StoredNode.{StoredNode}
use Rattle.node_table.specs.Diagram.{Graph, branch_of}
use Rattle.node_table.specs.Stored.{graph_of, HasVariables}
use Rattle.node_table.proofs.Pushed.{stored_from_branch}
use Rattle.node_table.proofs.diagram.Diagram.inner_atom.Goals as goal

variable_fits : (order : List ℕ) (next capacity : ℕ) (free : List ℕ) (nodes : Slab StoredNode) → length order ≤ 1000000
    → HasVariables (length order) next free capacity nodes → (node : Node) (branch : Branch) → branch_of (graph_of order nodes.slots) node
    ≡ Some branch
    → (0 < branch.variable) × (branch.variable ≤ 2147483647)
variable_fits order next capacity free nodes few have False branch is = absurd (let none : None ≡ Some branch = is in cc)
variable_fits order next capacity free nodes few have True branch is = absurd (let none : None ≡ Some branch = is in cc)
variable_fits order next capacity free nodes few have (Inner key) branch is =
    let found = stored_from_branch order nodes.slots key.index branch is in
    let range = have.stored key.index found.node found.stands in
    let same = ap (λ (b : Branch). b.variable) found.branch_is in
    (omega (arith, same, range.0), omega (arith, same, range.1, have.few, few))

pub positive-requires : goal.positive-requires
positive-requires c =
    variable_fits c.self.inside.order.items c.self.inside.next (vec_capacity c.self.inside.free) c.self.inside.free.items
    c.self.inside.nodes c.self.invariant.0.few_levels c.self.invariant.1 c.args.node c.in_Some-self.branch
    (ap (λ (g : Graph). branch_of g c.args.node) c.self.view_is ∙ (search rules))
