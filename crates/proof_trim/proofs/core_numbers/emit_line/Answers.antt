-- The number, and then the end of the line.
use Rattle.std.proofs.Common.{[], ◌∷◌, ◌++◌, refl}
use Rattle.std.specs.Prelude.{decimal}
use Rattle.host_io.proofs.Emitting.{in_turn, fails_within}
use Rattle.proof_trim.proofs.core_numbers.emit_line.Goals as goal

pub returns-in_err-emit_number-clause-emits : goal.returns-in_err-emit_number-clause-emits
returns-in_err-emit_number-clause-emits g c =
    fails_within c.in_err-emit_number.ensures.emits refl c.from_residual.ensures.0 (decimal c.args.id ++ 10 ∷ []) (10 ∷ [])
    c.emit_number.new.held.items refl

pub returns-clause-emits : goal.returns-clause-emits
returns-clause-emits g c = in_turn c.in_ok-emit_number.ensures.emits refl c.emit.ensures.emits
