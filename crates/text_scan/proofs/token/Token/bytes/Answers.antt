-- The bytes up to the token's length and to 64 are the first 64 of the token.
use Rattle.text_scan.proofs.Block.{take_take}
use Rattle.text_scan.proofs.token.Token.bytes.Goals as goal

pub returns-clause-value : goal.returns-clause-value
returns-clause-value c = rw (c.min.ensures, ← c.self.view_is) (take_take 64 c.self.inside.len c.self.inside.bytes)
