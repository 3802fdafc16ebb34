-- What is left to show of `token_examples`.
use Rattle.std.proofs.Common.{refl}
use Rattle.cnf_base.proofs.examples.token_examples.Goals as goal

pub returns-clause-lines : goal.returns-clause-lines
returns-clause-lines c = refl

pub returns-clause-other_comment : goal.returns-clause-other_comment
returns-clause-other_comment c = refl

pub returns-clause-end : goal.returns-clause-end
returns-clause-end c = refl

pub returns-clause-ended : goal.returns-clause-ended
returns-clause-ended c = refl
