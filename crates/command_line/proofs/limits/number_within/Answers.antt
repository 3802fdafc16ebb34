-- What is left to show of `number_within`.
use Rattle.std.proofs.Common.{◌≢◌, ◌≤◌, arith, length, slice_index, sym}
use Rattle.command_line.proofs.Numbers.{no_number, no_plus, number_above, number_below, number_inside, read_none, read_number}
use Rattle.command_line.proofs.limits.number_within.Goals as goal

pub returns-in-Ok-clause-given : goal.returns-in-Ok-clause-given
returns-in-Ok-clause-given c =
    let short : length c.args.text.now ≤ 18 = omega (arith, c.if-text-gt-MOST_DIGITS.false) in
    let unsigned : slice_index c.args.text.now 0 ≢ 43 = no_plus c.args.text.now c.starts_with.result
    (c.starts_with.ensures.byte (omega arith) (omega arith) (λ w o h. h)) c.if-starts_with.false in
    sym (number_inside c.args.least c.args.greatest c.args.text.now c.in-Ok.number short
    (read_number c.args.text.now c.in-Ok.number c.in-Ok.ensures.value.0 unsigned) (omega arith) (omega arith))

pub returns-in_default-clause-given : goal.returns-in_default-clause-given
returns-in_default-clause-given c =
    let short : length c.args.text.now ≤ 18 = omega (arith, c.if-text-gt-MOST_DIGITS.false) in
    let unsigned : slice_index c.args.text.now 0 ≢ 43 = no_plus c.args.text.now c.starts_with.result
    (c.starts_with.ensures.byte (omega arith) (omega arith) (λ w o h. h)) c.if-starts_with.false in
    sym (number_above c.args.least c.args.greatest c.args.text.now c.in-Ok.number short
    (read_number c.args.text.now c.in-Ok.number c.in-Ok.ensures.value.0 unsigned) (omega arith) (omega arith))

pub returns-in_default-2-clause-given : goal.returns-in_default-2-clause-given
returns-in_default-2-clause-given c =
    let short : length c.args.text.now ≤ 18 = omega (arith, c.if-text-gt-MOST_DIGITS.false) in
    let unsigned : slice_index c.args.text.now 0 ≢ 43 = no_plus c.args.text.now c.starts_with.result
    (c.starts_with.ensures.byte (omega arith) (omega arith) (λ w o h. h)) c.if-starts_with.false in
    sym (number_below c.args.least c.args.greatest c.args.text.now c.in-Ok.number short
    (read_number c.args.text.now c.in-Ok.number c.in-Ok.ensures.value.0 unsigned) (omega arith))

pub returns-in_default-3-clause-given : goal.returns-in_default-3-clause-given
returns-in_default-3-clause-given c =
    let short : length c.args.text.now ≤ 18 = omega (arith, c.if-text-gt-MOST_DIGITS.false) in
    let unsigned : slice_index c.args.text.now 0 ≢ 43 = no_plus c.args.text.now c.starts_with.result
    (c.starts_with.ensures.byte (omega arith) (omega arith) (λ w o h. h)) c.if-starts_with.false in
    sym (no_number c.args.least c.args.greatest c.args.text.now short
    (read_none _ c.args.text.now c.in_default.field-0 c.in_default.ensures.value.0 unsigned short))
