-- What is left to show of `write_by`.
use Rattle.std.proofs.Common.{List, ℕ, Ok, Err, refl, subst}
use Rattle.host_io.specs.Emitted.{Emits}
use Rattle.workload.specs.Texts.{text_by}
use Rattle.host_io.proofs.Emitting.{written_out, cut_before}
use Rattle.workload.proofs.schedule.write_by.Goals as goal

pub returns-in_err-emit_columns-clause-writes : goal.returns-in_err-emit_columns-clause-writes
returns-in_err-emit_columns-clause-writes g c =
    let empty = subst (λ (held : List ℕ). Emits g.S.Sink.tells (g.S.Sink.channel c.args.sink.now)
    (g.S.Sink.channel c.emit_columns.new.sink) held c.emit_columns.new.held.items
    (text_by c.args.way c.args.n) (Err c.in_err-emit_columns.field-0.0)) c.new-held.ensures c.in_err-emit_columns.ensures.emits in
    cut_before empty refl c.from_residual.ensures.0

pub returns-clause-writes : goal.returns-clause-writes
returns-clause-writes g c =
    let empty = subst (λ (held : List ℕ). Emits g.S.Sink.tells (g.S.Sink.channel c.args.sink.now)
    (g.S.Sink.channel c.emit_columns.new.sink) held c.emit_columns.new.held.items
    (text_by c.args.way c.args.n) (Ok tt)) c.new-held.ensures c.in_ok-emit_columns.ensures.emits in
    written_out empty c.as_slice.ensures.value c.write_all.ensures.writes
