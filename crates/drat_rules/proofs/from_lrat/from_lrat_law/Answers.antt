-- What is left to show of `from_lrat_law`.
use Rattle.drat_rules.proofs.LratAdditions.{drat_fault-none}
use Rattle.drat_rules.proofs.States.{IsListOf-start, IsListOf-added, IsListOf-deleted, IsListOf-passed_over}
use Rattle.drat_rules.proofs.from_lrat.from_lrat_law.Goals as goal

pub returns-clause-good : goal.returns-clause-good
returns-clause-good c state clauses id clause hints groups same h = drat_fault-none state clauses same id clause hints groups h

pub returns-clause-start : goal.returns-clause-start
returns-clause-start c = IsListOf-start c.start_law.ensures.none_above

pub returns-clause-added : goal.returns-clause-added
returns-clause-added c = IsListOf-added

pub returns-clause-deleted : goal.returns-clause-deleted
returns-clause-deleted c = IsListOf-deleted

pub returns-clause-passed_over : goal.returns-clause-passed_over
returns-clause-passed_over c = IsListOf-passed_over
