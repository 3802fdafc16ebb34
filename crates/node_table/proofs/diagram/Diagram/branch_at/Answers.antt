-- What is left to show of `Diagram::branch_at`.
use Rattle.std.proofs.Common.{Option, Some, sym, ◌∙◌, ap}
use Rattle.std.specs.Option.{option_map}
use Rattle.node_table.specs.declared.stored.StoredNode.{StoredNode}
use Rattle.node_table.specs.Diagram.{Graph, branch_at}
use Rattle.node_table.specs.Stored.{branch_in}
use Rattle.node_table.proofs.Keyed.{branch_at-graph_of}
use Rattle.node_table.proofs.Pushed.{unused_key}
use Rattle.node_table.proofs.diagram.Diagram.branch_at.Goals as goal

pub returns-in-None-clause-branch : goal.returns-in-None-clause-branch
returns-in-None-clause-branch c =
    sym (unused_key c.self.inside.order.items c.self.inside.nodes.slots c.args.key (sym c.in-None.ensures))
    ∙ ap (λ (g : Graph). branch_at g c.args.key) c.self.view_is

pub returns-in-Some-clause-branch : goal.returns-in-Some-clause-branch
returns-in-Some-clause-branch c =
    ap Some c.branch-node.ensures
    ∙ ap (λ (slot : Option StoredNode). option_map branch_in slot) c.in-Some.ensures
    ∙ sym (branch_at-graph_of c.self.inside.order.items c.self.inside.nodes.slots c.args.key)
    ∙ ap (λ (g : Graph). branch_at g c.args.key) c.self.view_is
