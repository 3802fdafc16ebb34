-- What is left to show of `number_laws`.
use Rattle.cnf_base.proofs.NumberLemmas.{plain_number-decimal, signed_number-signed_decimal}
use Rattle.cnf_base.proofs.laws.number_laws.Goals as goal

pub returns-clause-plain : goal.returns-clause-plain
returns-clause-plain c = plain_number-decimal

pub returns-clause-signed : goal.returns-clause-signed
returns-clause-signed c = signed_number-signed_decimal
