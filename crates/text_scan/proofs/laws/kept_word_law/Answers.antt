-- A short token is kept whole, and a long one is still long.
use Rattle.std.proofs.Common.{ap}
use Rattle.text_scan.proofs.Kept.{is_short-take, take-short, plain_number-take, signed_number-take}
use Rattle.text_scan.proofs.laws.kept_word_law.Goals as goal

pub returns-clause-short : goal.returns-clause-short
returns-clause-short c = λ word. is_short-take word.bytes

pub returns-clause-whole : goal.returns-clause-whole
returns-clause-whole c = λ word short. ap (λ bytes. record { bytes = bytes; line = word.line }) (take-short word.bytes short)

pub returns-clause-plain : goal.returns-clause-plain
returns-clause-plain c = λ word. plain_number-take word.bytes

pub returns-clause-signed : goal.returns-clause-signed
returns-clause-signed c = λ word. signed_number-take word.bytes
