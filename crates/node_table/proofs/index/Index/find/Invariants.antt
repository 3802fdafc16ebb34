-- What the loops of `Index::find` keep.
use Rattle.node_table.proofs.IndexKeys.{IsPassed}
use Rattle.node_table.proofs.index.Index.find.Given as goal

abbrev pub invariant-loop-step : goal.invariant-loop-step
invariant-loop-step l = IsPassed l.self l.nodes l.level l.high l.low l.home l.step
