-- What is left to show of `emit_step`.
use Rattle.std.proofs.Common.{map, refl}
use Rattle.drat_text.specs.LineText.{clause_text, step_text}
use Rattle.fresh_names.specs.Fresh.{named}
use Rattle.fresh_names.specs.Renaming.{name_of}
use Rattle.host_io.proofs.Emitting.{in_turn, fails_within, same_text}
use Rattle.drat_proof.proofs.line.emit_step.Goals as goal

pub returns-in_err-emit-clause-emits : goal.returns-in_err-emit-clause-emits
returns-in_err-emit-clause-emits g c =
    fails_within (same_text c.in_err-emit.ensures.emits c.word_before.ensures) refl c.from_residual.ensures.0
    (step_text c.args.deleted (map (named (name_of c.args.renaming.now)) c.args.clause.now))
    (clause_text (map (named (name_of c.args.renaming.now)) c.args.clause.now)) c.emit.new.held.items refl

pub returns-clause-emits : goal.returns-clause-emits
returns-clause-emits g c =
    in_turn (same_text c.in_ok-emit.ensures.emits c.word_before.ensures) refl c.emit_clause.ensures.emits
