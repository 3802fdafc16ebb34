-- What is left to show of `write_grouped`.
use Rattle.std.proofs.Common.{List, ℕ, Ok, Err, refl, subst}
use Rattle.host_io.specs.Emitted.{Emits}
use Rattle.lrat_write.specs.LineText.{addition_text}
use Rattle.host_io.proofs.Emitting.{written_out, cut_before}
use Rattle.lrat_write.proofs.step.write_grouped.Goals as goal

pub returns-in_err-emit_addition-clause-writes : goal.returns-in_err-emit_addition-clause-writes
returns-in_err-emit_addition-clause-writes g c =
    let empty = subst (λ (held : List ℕ). Emits g.S.Sink.tells (g.S.Sink.channel c.args.sink.now)
    (g.S.Sink.channel c.emit_addition.new.sink) held c.emit_addition.new.held.items
    (addition_text c.args.id c.args.clause.now c.args.hints.now c.args.groups.now)
    (Err c.in_err-emit_addition.field-0.0)) c.new-held.ensures c.in_err-emit_addition.ensures.emits in
    cut_before empty refl c.from_residual.ensures.0

pub returns-clause-writes : goal.returns-clause-writes
returns-clause-writes g c =
    let empty = subst (λ (held : List ℕ). Emits g.S.Sink.tells (g.S.Sink.channel c.args.sink.now)
    (g.S.Sink.channel c.emit_addition.new.sink) held c.emit_addition.new.held.items
    (addition_text c.args.id c.args.clause.now c.args.hints.now c.args.groups.now)
    (Ok tt)) c.new-held.ensures c.in_ok-emit_addition.ensures.emits in
    written_out empty c.as_slice.ensures.value c.write_all.ensures.writes
