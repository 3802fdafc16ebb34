-- What is left to show of `emit_order`.
use Rattle.std.proofs.Common.{refl}
use Rattle.std.specs.Prelude.{codes}
use Rattle.workload.specs.Texts.{order_text}
use Rattle.host_io.proofs.Emitting.{in_turn, fails_within}
use Rattle.workload.proofs.texts.emit_order.Goals as goal

pub returns-in_err-emit_row-clause-emits : goal.returns-in_err-emit_row-clause-emits
returns-in_err-emit_row-clause-emits g c =
    fails_within c.in_err-emit_row.ensures.emits refl c.from_residual.ensures.0 (order_text c.args.order.now)
    (codes "\n") c.emit_row.new.held.items refl

pub returns-clause-emits : goal.returns-clause-emits
returns-clause-emits g c = in_turn c.in_ok-emit_row.ensures.emits refl c.emit.ensures.emits
