-- What is left to show of `emit_spaced`.
use Rattle.std.proofs.Common.{◌∙◌, ap, refl}
use Rattle.std.specs.List.{flat_map}
use Rattle.std.proofs.lemmas.List.{take_all}
use Rattle.workload.specs.Texts.{spaced}
use Rattle.host_io.proofs.Emitting.{one_more, fails_at, same_text}
use Rattle.workload.proofs.texts.emit_spaced.Goals as goal

pub returns-in_err-emit_number-clause-emits : goal.returns-in_err-emit_number-clause-emits
returns-in_err-emit_number-clause-emits g c =
    fails_at spaced c.args.numbers.now c.loop-number.number-index 0 c.emit_number.new.held.items c.loop-number-test.true
    c.loop-number.invariant.0
    refl c.in_err-emit_number.ensures.emits refl c.from_residual.ensures.0

pub loop-number-preserved : goal.loop-number-preserved
loop-number-preserved g c = (
  one_more spaced c.args.numbers.now c.loop-number.number-index 0 c.loop-number-test.true c.loop-number.invariant.0 refl
      c.in_ok-emit_number.ensures.emits,
  c.in_ok-emit_number.ensures.beside ∙ c.loop-number.invariant.1,
)

pub returns-clause-emits : goal.returns-clause-emits
returns-clause-emits g c = same_text c.loop-number.invariant.0 (ap (flat_map spaced)
    (take_all c.loop-number.number-index c.args.numbers.now c.loop-number-test.false))
