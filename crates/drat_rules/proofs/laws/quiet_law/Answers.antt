-- What is left to show of `quiet_law`.
use Rattle.drat_rules.proofs.QuietSets.{no_quiet, has_quiet-none, some_list}
use Rattle.drat_rules.proofs.laws.quiet_law.Goals as goal

pub returns-clause-none : goal.returns-clause-none
returns-clause-none c = no_quiet

pub returns-clause-fails : goal.returns-clause-fails
returns-clause-fails c = has_quiet-none

pub returns-clause-finite : goal.returns-clause-finite
returns-clause-finite c = some_list
