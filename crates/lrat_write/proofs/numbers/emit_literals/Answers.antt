-- What is left to show of `emit_literals`.
use Rattle.std.proofs.Common.{◌≡◌, ◌∙◌, ap, refl}
use Rattle.std.specs.Prelude.{ℤ, ℕ, Bool, nat_abs}
use Rattle.std.specs.Int.{is_negative}
use Rattle.std.specs.List.{flat_map}
use Rattle.std.proofs.lemmas.List.{take_all}
use Rattle.lrat_write.specs.LineText.{led_number, spaced_literal}
use Rattle.lrat_write.proofs.Suffix.{literal_led}
use Rattle.host_io.proofs.Emitting.{one_more, fails_at, same_text}
use Rattle.lrat_write.proofs.numbers.emit_literals.Goals as goal

spaced : (literal : ℤ) (minus : Bool) (number : ℕ) (item : ℤ) → minus ≡ is_negative literal → number ≡ nat_abs literal → literal ≡ item
    → led_number minus number ≡ spaced_literal item
spaced literal minus number item sign size is = (λ i. led_number (sign i) (size i)) ∙ literal_led literal ∙ ap spaced_literal is

pub returns-in_err-emit_led-clause-emits : goal.returns-in_err-emit_led-clause-emits
returns-in_err-emit_led-clause-emits g c =
    fails_at spaced_literal c.args.literals.now c.loop-literal.literal-index c.literal-item.result c.emit_led.new.held.items
    c.loop-literal-test.true c.loop-literal.invariant.0
    (spaced c.literal-item.result c.is_negative.result c.from.result _ c.is_negative.ensures (c.from.ensures
    ∙ c.var.ensures.value) c.literal-item.is) c.in_err-emit_led.ensures.emits refl c.from_residual.ensures.0

pub loop-literal-preserved : goal.loop-literal-preserved
loop-literal-preserved g c = (
  one_more spaced_literal c.args.literals.now c.loop-literal.literal-index c.literal-item.result c.loop-literal-test.true
      c.loop-literal.invariant.0
      (spaced c.literal-item.result c.is_negative.result c.from.result _ c.is_negative.ensures (c.from.ensures
      ∙ c.var.ensures.value) c.literal-item.is) c.in_ok-emit_led.ensures.emits,
  c.in_ok-emit_led.ensures.beside ∙ c.loop-literal.invariant.1,
)

pub returns-clause-emits : goal.returns-clause-emits
returns-clause-emits g c = same_text c.loop-literal.invariant.0 (ap (flat_map spaced_literal)
    (take_all c.loop-literal.literal-index c.args.literals.now c.loop-literal-test.false))
