-- What is left to show of `same_clauses_law`.
use Rattle.drat_rules.proofs.LratAdditions.{live_in_list, list_is_live}
use Rattle.drat_rules.proofs.States.{HaveSame-start, HaveSame-added, HaveSame-deleted, without_dead}
use Rattle.drat_rules.proofs.laws.same_clauses_law.Goals as goal

pub returns-clause-start : goal.returns-clause-start
returns-clause-start c = HaveSame-start

pub returns-clause-listed : goal.returns-clause-listed
returns-clause-listed c live clauses id clause same at = live_in_list live clauses same id clause at

pub returns-clause-live : goal.returns-clause-live
returns-clause-live c live clauses clause same among = list_is_live live clauses same clause among

pub returns-clause-added : goal.returns-clause-added
returns-clause-added c = HaveSame-added

pub returns-clause-deleted : goal.returns-clause-deleted
returns-clause-deleted c = HaveSame-deleted

pub returns-clause-not_there : goal.returns-clause-not_there
returns-clause-not_there c = without_dead
