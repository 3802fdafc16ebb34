-- What is left to show of `Table::mark`.
use Rattle.std.proofs.Common.{◌∙◌, ap}
use Rattle.node_table.specs.Diagram.{is_node}
use Rattle.node_table.specs.Table.{TableState}
use Rattle.node_table.proofs.table.Table.mark.Goals as goal

pub of-requires : goal.of-requires
of-requires g c = record {
  roots = λ root among. ap (λ (t : TableState g.row.S.Denot). is_node t.graph root) c.self.view_is ∙ c.requires.roots root among;
}
