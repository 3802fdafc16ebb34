-- What is left to show of `Diagram::keys_law`.
use Rattle.std.proofs.Common.{◌∙◌, ap}
use Rattle.node_table.specs.Diagram.{Graph, is_node}
use Rattle.node_table.proofs.Pushed.{small_from_stands}
use Rattle.node_table.proofs.diagram.Diagram.keys_law.Goals as goal

pub returns : goal.returns
returns c node is =
    small_from_stands c.self.inside.order.items c.self.inside.places.items c.self.inside.index c.self.inside.nodes c.self.invariant.0 node
    (ap (λ (g : Graph). is_node g node) c.self.view_is ∙ is)
