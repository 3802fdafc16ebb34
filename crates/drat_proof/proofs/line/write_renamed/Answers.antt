-- What is left to show of `write_renamed`.
use Rattle.std.proofs.Common.{List, ℕ, ℤ, Ok, Err, map, refl, subst}
use Rattle.host_io.specs.Channel.{WritesAll}
use Rattle.host_io.specs.Emitted.{Emits}
use Rattle.drat_text.specs.LineText.{step_text}
use Rattle.fresh_names.specs.Fresh.{named}
use Rattle.fresh_names.specs.Renaming.{name_of}
use Rattle.host_io.proofs.Emitting.{written_out, cut_before}
use Rattle.drat_text.proofs.Lines.{step_text-line}
use Rattle.drat_proof.proofs.line.write_renamed.Goals as goal

pub returns-in_err-emit_step-clause-writes : goal.returns-in_err-emit_step-clause-writes
returns-in_err-emit_step-clause-writes g c =
    let clause : List ℤ = map (named (name_of c.args.renaming.now)) c.args.clause.now in
    let empty = subst (λ (held : List ℕ). Emits g.S.Sink.tells (g.S.Sink.channel c.args.sink.now)
    (g.S.Sink.channel c.emit_step.new.sink) held c.emit_step.new.held.items
    (step_text c.args.deleted clause) (Err c.in_err-emit_step.field-0.0)) c.new-held.ensures c.in_err-emit_step.ensures.emits in
    subst (λ (line : List ℕ). WritesAll g.S.Sink.tells (g.S.Sink.channel c.args.sink.now) (g.S.Sink.channel c.emit_step.new.sink) line
    c.from_residual.result) (step_text-line c.args.deleted clause) (cut_before empty refl c.from_residual.ensures.0)

pub returns-clause-writes : goal.returns-clause-writes
returns-clause-writes g c =
    let clause : List ℤ = map (named (name_of c.args.renaming.now)) c.args.clause.now in
    let empty = subst (λ (held : List ℕ). Emits g.S.Sink.tells (g.S.Sink.channel c.args.sink.now)
    (g.S.Sink.channel c.emit_step.new.sink) held c.emit_step.new.held.items
    (step_text c.args.deleted clause) (Ok tt)) c.new-held.ensures c.in_ok-emit_step.ensures.emits in
    subst (λ (line : List ℕ). WritesAll g.S.Sink.tells (g.S.Sink.channel c.args.sink.now) (g.S.Sink.channel c.write_all.new.sink) line
    c.write_all.result) (step_text-line c.args.deleted clause)
    (written_out empty c.as_slice.ensures.value c.write_all.ensures.writes)
