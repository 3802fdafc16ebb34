-- What is left to show of `Diagram::len`.
use Rattle.std.proofs.Common.{sym, ◌∙◌, ap}
use Rattle.std.specs.FinMap as map
use Rattle.node_table.specs.Diagram.{Graph}
use Rattle.node_table.proofs.Keyed.{len-keyed}
use Rattle.node_table.proofs.diagram.Diagram.len.Goals as goal

pub returns : goal.returns
returns c = c.len.ensures ∙ sym (len-keyed 0 c.self.inside.nodes.slots) ∙ ap (λ (g : Graph). map.len g.nodes) c.self.view_is
