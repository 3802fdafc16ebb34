-- The first 65 bytes of the token, whether they are cut before or after.
use Rattle.std.proofs.Common.{◌≡◌, ℕ, List, min, take, ap, ◌∙◌, sym, arith}
use Rattle.text_scan.proofs.Block.{take_take}
use Rattle.text_scan.proofs.token.Token.put_front.Goals as goal

pub returns : goal.returns
returns c =
    let least : min 72 (min c.args.len 65) ≡ min c.args.len 65 = omega arith in
    rw (c.copy_from_slice.ensures.after, c.min-self-inside.ensures)
    (ap (λ (l : List ℕ). record { bytes = l; line = c.args.line })
    (sym (take_take (min c.args.len 65) 72 c.args.front.now) ∙ ap (λ n. take n c.args.front.now) least
    ∙ take_take 65 c.args.len c.args.front.now))
