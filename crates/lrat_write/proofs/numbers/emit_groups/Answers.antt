-- What is left to show of `emit_groups`.
use Rattle.std.proofs.Common.{◌∙◌, ap, refl}
use Rattle.std.specs.List.{flat_map}
use Rattle.std.proofs.lemmas.List.{take_all}
use Rattle.lrat_write.specs.LineText.{group_text}
use Rattle.host_io.proofs.Emitting.{one_more, fails_at, same_text}
use Rattle.lrat_write.proofs.numbers.emit_groups.Goals as goal

pub returns-in_err-emit_group-clause-emits : goal.returns-in_err-emit_group-clause-emits
returns-in_err-emit_group-clause-emits g c =
    fails_at group_text c.args.groups.now c.loop-group.group-index c.group-item.result c.emit_group.new.held.items c.loop-group-test.true
    c.loop-group.invariant.0 (ap group_text c.group-item.is) c.in_err-emit_group.ensures.emits refl c.from_residual.ensures.0

pub loop-group-preserved : goal.loop-group-preserved
loop-group-preserved g c = (
  one_more group_text c.args.groups.now c.loop-group.group-index c.group-item.result c.loop-group-test.true c.loop-group.invariant.0
      (ap group_text c.group-item.is) c.in_ok-emit_group.ensures.emits,
  c.in_ok-emit_group.ensures.beside ∙ c.loop-group.invariant.1,
)

pub returns-clause-emits : goal.returns-clause-emits
returns-clause-emits g c = same_text c.loop-group.invariant.0 (ap (flat_map group_text)
    (take_all c.loop-group.group-index c.args.groups.now c.loop-group-test.false))
