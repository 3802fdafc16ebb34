-- What is left to show of `propagation_law`.
use Rattle.drat_rules.proofs.Propagation.{forced_there, no_conflict_there, IsQuiet-ends}
use Rattle.drat_rules.proofs.laws.propagation_law.Goals as goal

pub returns-clause-forced : goal.returns-clause-forced
returns-clause-forced c clauses n begun clause literal quiet i among e = forced_there clauses n begun clause quiet i among literal e

pub returns-clause-conflict : goal.returns-clause-conflict
returns-clause-conflict c = no_conflict_there

pub returns-clause-ends : goal.returns-clause-ends
returns-clause-ends c = IsQuiet-ends
