-- What is left to show of `emit_clause`.
use Rattle.std.proofs.Common.{refl}
use Rattle.std.specs.Prelude.{codes}
use Rattle.drat_text.specs.LineText.{clause_text}
use Rattle.host_io.proofs.Emitting.{in_turn, fails_within}
use Rattle.drat_text.proofs.writer.emit_clause.Goals as goal

pub returns-in_err-emit_literals-clause-emits : goal.returns-in_err-emit_literals-clause-emits
returns-in_err-emit_literals-clause-emits g c =
    fails_within c.in_err-emit_literals.ensures.emits refl c.from_residual.ensures.0 (clause_text c.args.clause.now)
    (codes "0\n") c.emit_literals.new.held.items refl

pub returns-clause-emits : goal.returns-clause-emits
returns-clause-emits g c = in_turn c.in_ok-emit_literals.ensures.emits refl c.emit.ensures.emits
