-- What is left to show of `Index::insert`.
use Rattle.node_table.proofs.IndexKeys.{joined}
use Rattle.node_table.proofs.index.Index.insert.Goals as goal

pub returns : goal.returns
returns c = λ old new is vacant updates. joined c.args.self.now c.enter.new.self c.args.key c.args.node.now c.enter.ensures old new
    c.requires.key is updates
