-- What is left to show of `emit_quantifying`.
use Rattle.std.proofs.Common.{◌++◌, ◌∙◌, append_assoc, refl, sym, arith}
use Rattle.std.specs.Prelude.{codes}
use Rattle.std.specs.List.{flat_map}
use Rattle.workload.specs.Schedule.{ending, quantifying}
use Rattle.workload.specs.Texts.{spaced, command_line, letter_of}
use Rattle.workload.proofs.Endings.{some_end, quantify_line, no_end}
use Rattle.host_io.proofs.Emitting.{in_turn, fails_within, same_text, nothing}
use Rattle.workload.proofs.schedule.emit_quantifying.Goals as goal

pub returns-then-n-lt3-clause-emits : goal.returns-then-n-lt3-clause-emits
returns-then-n-lt3-clause-emits g c =
    same_text (nothing (g.S.Sink.channel c.args.sink.now) c.args.held.now.items)
    (sym (no_end c.args.way c.args.n c.args.column c.requires.least c.if-n-lt3.true c.requires.column.0 c.requires.column.1))

pub returns-in_err-emit-clause-emits : goal.returns-in_err-emit-clause-emits
returns-in_err-emit-clause-emits g c =
    let line = quantify_line c.args.way (ending c.args.n c.args.column) (some_end c.args.n c.args.column
    (omega arith) c.requires.column.0 c.requires.column.1) in
    fails_within (same_text c.in_err-emit.ensures.emits c.letter.ensures) refl c.from_residual.ensures.0
    (flat_map (command_line c.args.way) (quantifying (ending c.args.n c.args.column))) (flat_map spaced (ending c.args.n c.args.column)
    ++ codes "\n") c.emit.new.held.items
    (line ∙ append_assoc (letter_of c.args.way) (flat_map spaced (ending c.args.n c.args.column)) (codes "\n"))

pub returns-in_err-emit_ending-clause-emits : goal.returns-in_err-emit_ending-clause-emits
returns-in_err-emit_ending-clause-emits g c =
    let line = quantify_line c.args.way (ending c.args.n c.args.column) (some_end c.args.n c.args.column
    (omega arith) c.requires.column.0 c.requires.column.1) in
    fails_within (in_turn (same_text c.in_ok-emit.ensures.emits c.letter.ensures) refl c.in_err-emit_ending.ensures.emits) refl
    c.from_residual-in_err-emit_ending.ensures.0
    (flat_map (command_line c.args.way) (quantifying (ending c.args.n c.args.column))) (codes "\n") c.emit_ending.new.held.items line

pub returns-clause-emits : goal.returns-clause-emits
returns-clause-emits g c =
    let line = quantify_line c.args.way (ending c.args.n c.args.column) (some_end c.args.n c.args.column
    (omega arith) c.requires.column.0 c.requires.column.1) in
    same_text (in_turn (in_turn (same_text c.in_ok-emit.ensures.emits c.letter.ensures) refl c.in_ok-emit_ending.ensures.emits) refl c.emit-2.ensures.emits) (sym line)
