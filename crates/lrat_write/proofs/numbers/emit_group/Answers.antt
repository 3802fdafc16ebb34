-- What is left to show of `emit_group`.
use Rattle.std.proofs.Common.{ℕ, [], ◌∷◌, refl, ap}
use Rattle.std.specs.Prelude.{nat_lt}
use Rattle.lrat_write.specs.LineText.{led_number, ids_text, group_text}
use Rattle.host_io.proofs.Emitting.{in_turn, fails_within, same_text}
use Rattle.lrat_write.proofs.numbers.emit_group.Goals as goal

pub returns-in_err-emit_led-clause-emits : goal.returns-in_err-emit_led-clause-emits
returns-in_err-emit_led-clause-emits g c =
    let led = ap (λ (n : ℕ). led_number (nat_lt 0 n) n) c.get-id.ensures in
    fails_within (same_text c.in_err-emit_led.ensures.emits led) refl c.from_residual.ensures.0 (group_text c.args.group.now)
    (ids_text (32 ∷ []) c.args.group.now.hints) c.emit_led.new.held.items refl

pub returns-clause-emits : goal.returns-clause-emits
returns-clause-emits g c =
    let led = ap (λ (n : ℕ). led_number (nat_lt 0 n) n) c.get-id.ensures in
    in_turn (same_text c.in_ok-emit_led.ensures.emits led) refl
    (same_text c.emit_ids.ensures.emits (ap (ids_text (32 ∷ [])) c.as_slice.ensures))
