-- What is left to show of `push_byte`.
use Rattle.std.proofs.Common.{ℕ, List, ◌∷◌, ap, ◌∙◌}
use Rattle.proof_trim.specs.Row.{stacked}
use Rattle.proof_trim.proofs.Rows.{stacked_more}
use Rattle.proof_trim.proofs.bytes.push_byte.Goals as goal

pub returns : goal.returns
returns c =
    ap (stacked c.make_room.new.full.items) c.in_ok-push.ensures
    ∙ stacked_more c.make_room.new.full.items c.make_room.new.last c.args.byte
    ∙ ap (λ (l : List ℕ). c.args.byte ∷ l) c.in_ok-make_room.ensures
