-- What is left to show of `Diagram::find`.
use Rattle.std.proofs.Common.{Option, sym, ◌∙◌, ap}
use Rattle.std.specs.Option.{option_map}
use Rattle.node_table.specs.declared.stored.StoredNode.{StoredNode}
use Rattle.node_table.specs.Diagram.{Graph, branch_at, is_node}
use Rattle.node_table.specs.Stored.{branch_in}
use Rattle.node_table.proofs.Indexed.{branch_from_triple, triple_from_branch}
use Rattle.node_table.proofs.Keyed.{branch_at-graph_of}
use Rattle.node_table.proofs.Pushed.{small_from_stands, stored_from_branch}
use Rattle.node_table.proofs.diagram.Diagram.find.Goals as goal

pub of-high-requires : goal.of-high-requires
of-high-requires c =
    small_from_stands c.self.inside.order.items c.self.inside.places.items c.self.inside.index c.self.inside.nodes c.self.invariant.0
    c.args.high
    (ap (λ (g : Graph). is_node g c.args.high) c.self.view_is ∙ c.requires.high)

pub of-low-requires : goal.of-low-requires
of-low-requires c =
    small_from_stands c.self.inside.order.items c.self.inside.places.items c.self.inside.index c.self.inside.nodes c.self.invariant.0
    c.args.low
    (ap (λ (g : Graph). is_node g c.args.low) c.self.view_is ∙ c.requires.low)

pub returns-in-None : goal.returns-in-None
returns-in-None c key branch is level high low =
    let found = stored_from_branch c.self.inside.order.items c.self.inside.nodes.slots key branch
    (ap (λ (g : Graph). branch_at g key) c.self.view_is ∙ is) in
    c.in-None.ensures key found.node found.stands
    (triple_from_branch found.node branch found.branch_is c.args.level c.args.high c.args.low c.of-high.result c.of-low.result
    c.of-high.ensures c.of-low.ensures
    level high low)

pub returns-in-Some : goal.returns-in-Some
returns-in-Some c =
    let found = c.in-Some.ensures in
    let same = branch_from_triple found.0 c.args.level c.args.high c.args.low c.of-high.result c.of-low.result c.of-high.ensures
    c.of-low.ensures found.2 in (
      branch_in found.0,
      ap (λ (g : Graph). branch_at g c.in-Some.index) (sym c.self.view_is)
          ∙ branch_at-graph_of c.self.inside.order.items c.self.inside.nodes.slots c.in-Some.index
          ∙ ap (λ (slot : Option StoredNode). option_map branch_in slot) found.1,
      same.0,
      same.1,
      same.2,
    )
