-- What is left to show of `put_code`.
use Rattle.std.proofs.Common.{arith}
use Rattle.proof_trim.proofs.Buffer.{held_len}
use Rattle.proof_trim.proofs.line_buffer.LineBuffer.put_code.Goals as goal

pub invariant_of-self : goal.invariant_of-self
invariant_of-self c =
    let len = held_len c.self.inside.len c.self.inside.bytes c.args.self.now c.self.view_is c.self.invariant c.self.told in
    omega (arith, len, c.requires, c.put_code-self-inside.ensures.within)
