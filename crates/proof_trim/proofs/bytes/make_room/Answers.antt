-- What is left to show of `make_room`.
use Rattle.std.proofs.Common.{◌∙◌}
use Rattle.proof_trim.proofs.Rows.{chunk_begun}
use Rattle.proof_trim.proofs.bytes.make_room.Goals as goal

pub returns : goal.returns
returns c =
    chunk_begun c.args.full.now.items c.push.new.self.items c.args.last.now c.replace-chunk.result c.replace-chunk.new.dest
    c.in_ok-push.ensures.items c.replace-chunk.ensures.value (c.replace-chunk.ensures.after ∙ c.in_ok-next.ensures)
