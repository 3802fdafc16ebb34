-- What is left to show of `emit_each`.
use Rattle.std.proofs.Common.{◌∙◌, ap, refl}
use Rattle.std.specs.List.{flat_map}
use Rattle.std.proofs.lemmas.List.{take_all}
use Rattle.lrat_write.specs.LineText.{led_id, lead}
use Rattle.host_io.proofs.Emitting.{one_more, fails_at, same_text}
use Rattle.lrat_write.proofs.numbers.emit_each.Goals as goal

pub returns-in_err-emit_led-clause-emits : goal.returns-in_err-emit_led-clause-emits
returns-in_err-emit_led-clause-emits g c =
    fails_at (led_id (lead c.args.minus)) c.args.ids.now c.loop-id.id-index c.id-item.result c.emit_led.new.held.items c.loop-id-test.true
    c.loop-id.invariant.0
    (ap (led_id (lead c.args.minus)) (c.get.ensures ∙ c.id-item.is)) c.in_err-emit_led.ensures.emits refl c.from_residual.ensures.0

pub loop-id-preserved : goal.loop-id-preserved
loop-id-preserved g c = (
  one_more (led_id (lead c.args.minus)) c.args.ids.now c.loop-id.id-index c.id-item.result c.loop-id-test.true c.loop-id.invariant.0
      (ap (led_id (lead c.args.minus)) (c.get.ensures ∙ c.id-item.is)) c.in_ok-emit_led.ensures.emits,
  c.in_ok-emit_led.ensures.beside ∙ c.loop-id.invariant.1,
)

pub returns-clause-emits : goal.returns-clause-emits
returns-clause-emits g c = same_text c.loop-id.invariant.0 (ap (flat_map (led_id (lead c.args.minus)))
    (take_all c.loop-id.id-index c.args.ids.now c.loop-id-test.false))
