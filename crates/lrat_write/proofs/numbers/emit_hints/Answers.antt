-- What is left to show of `emit_hints`.
use Rattle.std.proofs.Common.{refl}
use Rattle.std.specs.List.{flat_map}
use Rattle.lrat_write.specs.LineText.{group_text, hints_text}
use Rattle.host_io.proofs.Emitting.{in_turn, fails_within}
use Rattle.lrat_write.proofs.numbers.emit_hints.Goals as goal

pub returns-in_err-emit_ids-clause-emits : goal.returns-in_err-emit_ids-clause-emits
returns-in_err-emit_ids-clause-emits g c =
    fails_within c.in_err-emit_ids.ensures.emits refl c.from_residual.ensures.0 (hints_text c.args.hints.now c.args.groups.now)
    (flat_map group_text c.args.groups.now) c.emit_ids.new.held.items refl

pub returns-clause-emits : goal.returns-clause-emits
returns-clause-emits g c = in_turn c.in_ok-emit_ids.ensures.emits refl c.emit_groups.ensures.emits
