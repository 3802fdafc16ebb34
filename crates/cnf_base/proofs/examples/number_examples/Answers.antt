-- What is left to show of `number_examples`.
use Rattle.std.proofs.Common.{refl}
use Rattle.cnf_base.proofs.examples.number_examples.Goals as goal

pub returns-clause-zeros : goal.returns-clause-zeros
returns-clause-zeros c = refl

pub returns-clause-sign : goal.returns-clause-sign
returns-clause-sign c = refl

pub returns-clause-plus : goal.returns-clause-plus
returns-clause-plus c = refl

pub returns-clause-minus : goal.returns-clause-minus
returns-clause-minus c = refl

pub returns-clause-minus_zero : goal.returns-clause-minus_zero
returns-clause-minus_zero c = refl

pub returns-clause-lone_minus : goal.returns-clause-lone_minus
returns-clause-lone_minus c = refl

pub returns-clause-at_limit : goal.returns-clause-at_limit
returns-clause-at_limit c = refl

pub returns-clause-over_limit : goal.returns-clause-over_limit
returns-clause-over_limit c = refl

pub returns-clause-signed_at_limit : goal.returns-clause-signed_at_limit
returns-clause-signed_at_limit c = refl

pub returns-clause-signed_over_limit : goal.returns-clause-signed_over_limit
returns-clause-signed_over_limit c = refl
