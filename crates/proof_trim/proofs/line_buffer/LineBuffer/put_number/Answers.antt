-- What is left to show of `put_number`.
use Rattle.std.proofs.Common.{arith}
use Rattle.std.proofs.lemmas.List.{length-take}
use Rattle.proof_trim.proofs.Buffer.{held_len}
use Rattle.proof_trim.proofs.Pairs.{at_most_twenty}
use Rattle.proof_trim.proofs.line_buffer.LineBuffer.put_number.Goals as goal

pub put_number-self-inside-requires : goal.put_number-self-inside-requires
put_number-self-inside-requires c =
    let len = held_len c.self.inside.len c.self.inside.bytes c.args.self.now c.self.view_is c.self.invariant c.self.told in
    omega (arith, len, c.requires, at_most_twenty c.args.number c.ranges.number.fits)

pub invariant_of-self : goal.invariant_of-self
invariant_of-self c =
    let len = held_len c.self.inside.len c.self.inside.bytes c.args.self.now c.self.view_is c.self.invariant c.self.told in
    omega (arith, len, c.requires, c.put_number-self-inside.ensures.next, at_most_twenty c.args.number c.ranges.number.fits)

pub returns-clause-len : goal.returns-clause-len
returns-clause-len c =
    let len = held_len c.self.inside.len c.self.inside.bytes c.args.self.now c.self.view_is c.self.invariant c.self.told in
    omega (
      arith,
      len,
      c.put_number-self-inside.ensures.next,
      at_most_twenty c.args.number c.ranges.number.fits,
      length-take c.put_number-self-inside.result c.put_number-self-inside.new.bytes,
    )
