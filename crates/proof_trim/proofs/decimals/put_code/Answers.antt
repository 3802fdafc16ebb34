-- What is left to show of `put_code`.
use Rattle.std.proofs.Common.{◌<◌, ◌^◌, Bool, ◌&&◌, ◌++◌, take, ap, ◌∙◌, arith}
use Rattle.std.specs.Prelude.{nat_lt}
use Rattle.lrat_write.specs.LineText.{led_number}
use Rattle.proof_trim.specs.Packed.{is_minus}
use Rattle.proof_trim.proofs.Buffer.{led}
use Rattle.proof_trim.proofs.Pairs.{at_most_twenty}
use Rattle.proof_trim.proofs.decimals.put_code.Goals as goal

pub put_number-requires : goal.put_number-requires
put_number-requires c =
    let fits : c.number_of-number.result < 2 ^ 64 = omega (arith, c.number_of-number.ensures, c.ranges.code.fits) in
    omega (
      arith,
      at_most_twenty c.number_of-number.result fits,
      c.requires,
      c.put_byte-behind_space.ensures.next,
      c.put_sign-behind_sign.ensures.within,
    )

pub returns-clause-within : goal.returns-clause-within
returns-clause-within c =
    let fits : c.number_of-number.result < 2 ^ 64 = omega (arith, c.number_of-number.ensures, c.ranges.code.fits) in
    omega (
      arith,
      at_most_twenty c.number_of-number.result fits,
      c.put_byte-behind_space.ensures.next,
      c.put_sign-behind_sign.ensures.within,
      c.put_number.ensures.next,
    )

pub returns-clause-text : goal.returns-clause-text
returns-clause-text c =
    led (take c.args.at c.args.bytes.now) (take c.put_byte-behind_space.result c.put_byte-behind_space.new.bytes)
    (take c.put_sign-behind_sign.result c.put_sign-behind_sign.new.bytes) (take c.put_number.result c.put_number.new.bytes)
    c.has_sign.result c.number_of-number.result c.put_byte-behind_space.ensures.text c.put_sign-behind_sign.ensures.text
    c.put_number.ensures.text
    ∙ ap (λ (minus : Bool). take c.args.at c.args.bytes.now ++ led_number minus c.number_of-number.result) c.has_sign.ensures
    ∙ (λ i. take c.args.at c.args.bytes.now ++ led_number (is_minus c.args.code && nat_lt 0 (c.number_of-number.ensures i))
    (c.number_of-number.ensures i))
