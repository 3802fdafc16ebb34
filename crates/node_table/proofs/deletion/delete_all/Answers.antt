-- What is left to show of `delete_all`.
use Rattle.std.proofs.Common.{true}
use Rattle.node_table.proofs.Deleting.{Deletes-one, DeletesTorn-one, on_err}
use Rattle.node_table.proofs.deletion.delete_all.Goals as goal

pub returns-in_err-delete-clause-torn : goal.returns-in_err-delete-clause-torn
returns-in_err-delete-clause-torn g c =
    let own = c.in_err-delete.ensures in
    on_err c.from_residual.result (DeletesTorn-one c.args.ledger.now c.delete.new.self c.args.ids.now own.told own.room own.some)

pub returns-clause-deleted : goal.returns-clause-deleted
returns-clause-deleted g c =
    let own = c.in_ok-delete.ensures in
    Deletes-one true c.args.ledger.now c.delete.new.self c.args.ids.now own.told own.room
