-- What is left to show of `emit_clause`.
use Rattle.std.proofs.Common.{map, refl}
use Rattle.std.specs.Prelude.{codes}
use Rattle.drat_text.specs.LineText.{clause_text}
use Rattle.fresh_names.specs.Fresh.{named}
use Rattle.fresh_names.specs.Renaming.{name_of}
use Rattle.host_io.proofs.Emitting.{in_turn, fails_within}
use Rattle.drat_proof.proofs.line.emit_clause.Goals as goal

pub returns-in_err-emit_literals-clause-emits : goal.returns-in_err-emit_literals-clause-emits
returns-in_err-emit_literals-clause-emits g c =
    fails_within c.in_err-emit_literals.ensures.emits refl c.from_residual.ensures.0
    (clause_text (map (named (name_of c.args.renaming.now)) c.args.clause.now)) (codes "0\n") c.emit_literals.new.held.items refl

pub returns-clause-emits : goal.returns-clause-emits
returns-clause-emits g c = in_turn c.in_ok-emit_literals.ensures.emits refl c.emit.ensures.emits
