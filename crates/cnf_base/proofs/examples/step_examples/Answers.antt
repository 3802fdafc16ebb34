-- What is left to show of `step_examples`.
use Rattle.std.proofs.Common.{refl}
use Rattle.std.specs.Fmt.{digits}
use Rattle.cnf_base.proofs.examples.step_examples.Goals as goal

pub returns-clause-written : goal.returns-clause-written
unfolding digits
returns-clause-written c = refl

pub returns-clause-deletion_written : goal.returns-clause-deletion_written
unfolding digits
returns-clause-deletion_written c = refl

pub returns-clause-empty_clause : goal.returns-clause-empty_clause
returns-clause-empty_clause c = refl

pub returns-clause-groups : goal.returns-clause-groups
returns-clause-groups c = refl

pub returns-clause-deletion : goal.returns-clause-deletion
returns-clause-deletion c = refl

pub returns-clause-not_ended : goal.returns-clause-not_ended
returns-clause-not_ended c = refl

pub returns-clause-more_behind : goal.returns-clause-more_behind
returns-clause-more_behind c = refl

pub returns-clause-two_steps : goal.returns-clause-two_steps
returns-clause-two_steps c = refl

pub returns-clause-identifier_zero : goal.returns-clause-identifier_zero
returns-clause-identifier_zero c = refl

pub returns-clause-literal_limit : goal.returns-clause-literal_limit
returns-clause-literal_limit c = refl

pub returns-clause-hint_limit : goal.returns-clause-hint_limit
returns-clause-hint_limit c = refl

pub returns-clause-lines : goal.returns-clause-lines
returns-clause-lines c = refl
