-- What is left to show of `write_order`.
use Rattle.std.proofs.Common.{List, ℕ, Ok, Err, refl, subst}
use Rattle.host_io.specs.Channel.{WritesAll}
use Rattle.host_io.specs.Emitted.{Emits}
use Rattle.workload.specs.Texts.{order_text}
use Rattle.host_io.proofs.Emitting.{written_out, cut_before}
use Rattle.workload.proofs.texts.write_order.Goals as goal

pub returns-in_err-emit_order-clause-writes : goal.returns-in_err-emit_order-clause-writes
returns-in_err-emit_order-clause-writes g c =
    let empty = subst (λ (held : List ℕ). Emits g.S.Sink.tells (g.S.Sink.channel c.args.sink.now)
    (g.S.Sink.channel c.emit_order.new.sink) held c.emit_order.new.held.items
    (order_text c.as_slice.result.now) (Err c.in_err-emit_order.field-0.0)) c.new-held.ensures c.in_err-emit_order.ensures.emits in
    subst (λ (order : List ℕ). WritesAll g.S.Sink.tells (g.S.Sink.channel c.args.sink.now) (g.S.Sink.channel c.emit_order.new.sink)
    (order_text order) c.from_residual.result)
    c.as_slice.ensures.value (cut_before empty refl c.from_residual.ensures.0)

pub returns-clause-writes : goal.returns-clause-writes
returns-clause-writes g c =
    let empty = subst (λ (held : List ℕ). Emits g.S.Sink.tells (g.S.Sink.channel c.args.sink.now)
    (g.S.Sink.channel c.emit_order.new.sink) held c.emit_order.new.held.items
    (order_text c.as_slice.result.now) (Ok tt)) c.new-held.ensures c.in_ok-emit_order.ensures.emits in
    subst (λ (order : List ℕ). WritesAll g.S.Sink.tells (g.S.Sink.channel c.args.sink.now) (g.S.Sink.channel c.write_all.new.sink)
    (order_text order) c.write_all.result)
    c.as_slice.ensures.value (written_out empty c.as_slice-2.ensures.value c.write_all.ensures.writes)
