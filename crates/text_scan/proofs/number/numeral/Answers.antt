-- One more digit.
use Rattle.std.proofs.Common.{◌∙◌, sym}
use Rattle.text_scan.proofs.Numeral.{one_more_digit}
use Rattle.text_scan.proofs.number.numeral.Goals as goal

pub loop-digit-preserved : goal.loop-digit-preserved
loop-digit-preserved c = rw c.min-value.ensures
    (one_more_digit c.args.digits.now c.loop-digit.digit-index c.loop-digit.value c.loop-digit.invariant c.loop-digit-test.true
    (sym c.is_digit.ensures ∙ c.if-not-is_digit.false))
