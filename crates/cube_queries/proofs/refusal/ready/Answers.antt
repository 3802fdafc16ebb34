-- What is left to show of `ready`.
use Rattle.std.proofs.Common.{arith}
use Rattle.node_table.specs.Table.{live_nodes}
use Rattle.cube_queries.proofs.Added.{adds_as, adds_handed, adds_none}
use Rattle.cube_queries.proofs.refusal.ready.Goals as goal

pub returns-in_err-sums-clause-adds : goal.returns-in_err-sums-clause-adds
returns-in_err-sums-clause-adds g c =
    let n = live_nodes c.args.runner.now.terms.table.graph in
    adds_handed c.args.runner.now c.add_sums.new.runner n n (omega arith) c.in_err-sums.field-0.0 c.in_err-sums.ensures.adds _
    c.from_residual.ensures.1

pub returns-clause-adds : goal.returns-clause-adds
returns-clause-adds g c =
    let n = live_nodes c.args.runner.now.terms.table.graph in
    adds_as c.args.runner.now c.add_sums.new.runner n n (omega arith) _ _ c.in_ok-sums.ensures.adds

pub returns-then-not-is_empty-clause-adds : goal.returns-then-not-is_empty-clause-adds
returns-then-not-is_empty-clause-adds g c =
    adds_none c.steps_law.ensures c.args.runner.now c.requires.runner _ (live_nodes c.args.runner.now.terms.table.graph)
