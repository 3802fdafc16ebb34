-- What is left to show of `emit_part`.
use Rattle.std.proofs.Common.{refl}
use Rattle.host_io.proofs.Emitting.{fails_within}
use Rattle.proof_trim.specs.Lines.{part_at}
use Rattle.proof_trim.proofs.Emitting.{put_behind}
use Rattle.proof_trim.proofs.lines.emit_part.Goals as goal

pub returns-in_err-make_room-clause-emits : goal.returns-in_err-make_room-clause-emits
returns-in_err-make_room-clause-emits g c =
    let part = part_at c.args.place c.args.number c.args.is_there in
    fails_within c.in_err-make_room.ensures.emits refl c.from_residual.ensures.0 part part c.make_room.new.held refl

pub returns-clause-emits : goal.returns-clause-emits
returns-clause-emits g c = put_behind c.in_ok-make_room.ensures.emits refl c.put_part.ensures
