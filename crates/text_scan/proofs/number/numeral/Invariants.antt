-- So far all bytes were digits.
use Rattle.text_scan.proofs.Numeral.{IsNumeralFrom}
use Rattle.text_scan.proofs.number.numeral.Given as goal

abbrev pub invariant-loop-digit : goal.invariant-loop-digit
invariant-loop-digit l = IsNumeralFrom l.digits l.digit-index l.value
