-- What is left to show of `emit_literal`.
use Rattle.std.proofs.Common.{refl, ap, ◌∙◌, w32}
use Rattle.std.specs.Prelude.{codes}
use Rattle.std.specs.Fmt.{signed_decimal}
use Rattle.std.proofs.lemmas.Int.{to_z-of_z}
use Rattle.drat_text.specs.LineText.{literal_text}
use Rattle.host_io.proofs.Emitting.{in_turn, fails_within, same_text}
use Rattle.drat_proof.proofs.line.emit_literal.Goals as goal

pub returns-in_err-emit_number-clause-emits : goal.returns-in_err-emit_number-clause-emits
returns-in_err-emit_number-clause-emits g c =
    fails_within (same_text c.in_err-emit_number.ensures.emits (ap signed_decimal
    (to_z-of_z w32 c.get.result (record { sfits = c.get.type_inv }) ∙ c.get.ensures))) refl c.from_residual.ensures.0
    (literal_text c.args.literal) (codes " ") c.emit_number.new.held.items refl

pub returns-clause-emits : goal.returns-clause-emits
returns-clause-emits g c =
    in_turn (same_text c.in_ok-emit_number.ensures.emits (ap signed_decimal (to_z-of_z w32 c.get.result (record { sfits = c.get.type_inv })
    ∙ c.get.ensures))) refl c.emit.ensures.emits
