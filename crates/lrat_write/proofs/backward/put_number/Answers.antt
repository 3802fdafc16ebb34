-- What is left to show of `put_number`.
use Rattle.std.proofs.Common.{arith}
use Rattle.lrat_write.proofs.Suffix.{length-decimal}
use Rattle.lrat_write.proofs.backward.put_number.Goals as goal

pub write_digits-digits-requires : goal.write_digits-digits-requires
write_digits-digits-requires c = (omega (arith, length-decimal c.args.number c.ranges.number.fits), omega arith)

pub put_byte-sign-requires-clause-room : goal.put_byte-sign-requires-clause-room
put_byte-sign-requires-clause-room c = omega (arith, length-decimal c.args.number c.ranges.number.fits)

pub put_byte-requires-clause-room : goal.put_byte-requires-clause-room
put_byte-requires-clause-room c = omega (arith, length-decimal c.args.number c.ranges.number.fits)

pub put_byte-requires-2-clause-room : goal.put_byte-requires-2-clause-room
put_byte-requires-2-clause-room c = omega (arith, length-decimal c.args.number c.ranges.number.fits)
