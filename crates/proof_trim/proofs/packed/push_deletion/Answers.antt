-- What is left to show of `push_deletion`.
use Rattle.std.specs.Prelude.{map}
use Rattle.proof_trim.specs.Packed.{hint_code}
use Rattle.proof_trim.proofs.Pushed.{deletion_pushed}
use Rattle.proof_trim.proofs.packed.push_deletion.Goals as goal

pub returns : goal.returns
returns c =
    deletion_pushed 1 c.args.id (map hint_code c.args.ids.now) c.args.row.now c.push.new.self c.push_hints.new.row c.push_head.new.row
    c.in_ok-push.ensures c.in_ok-push_hints.ensures c.in_ok-push_head.ensures
