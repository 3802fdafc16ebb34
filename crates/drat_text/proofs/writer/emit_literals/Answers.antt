-- What is left to show of `emit_literals`.
use Rattle.std.proofs.Common.{◌∙◌, ap, refl}
use Rattle.std.specs.List.{flat_map}
use Rattle.std.proofs.lemmas.List.{take_all}
use Rattle.drat_text.specs.LineText.{literal_text}
use Rattle.host_io.proofs.Emitting.{one_more, fails_at, same_text}
use Rattle.drat_text.proofs.writer.emit_literals.Goals as goal

pub returns-in_err-emit_literal-clause-emits : goal.returns-in_err-emit_literal-clause-emits
returns-in_err-emit_literal-clause-emits g c =
    fails_at literal_text c.args.clause.now c.loop-literal.literal-index c.literal-item.result c.emit_literal.new.held.items
    c.loop-literal-test.true c.loop-literal.invariant.0
    (ap literal_text c.literal-item.is) c.in_err-emit_literal.ensures.emits refl c.from_residual.ensures.0

pub loop-literal-preserved : goal.loop-literal-preserved
loop-literal-preserved g c = (
  one_more literal_text c.args.clause.now c.loop-literal.literal-index c.literal-item.result c.loop-literal-test.true
      c.loop-literal.invariant.0 (ap literal_text c.literal-item.is) c.in_ok-emit_literal.ensures.emits,
  c.in_ok-emit_literal.ensures.beside ∙ c.loop-literal.invariant.1,
)

pub returns-clause-emits : goal.returns-clause-emits
returns-clause-emits g c = same_text c.loop-literal.invariant.0 (ap (flat_map literal_text)
    (take_all c.loop-literal.literal-index c.args.clause.now c.loop-literal-test.false))
