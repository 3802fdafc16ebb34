-- What is left to show of `start_law`.
use Rattle.lrat_rules.proofs.Starts.{clause_at-start-within, clause_at-start-zero, clause_at-start-above, start-append}
use Rattle.lrat_rules.proofs.laws.start_law.Goals as goal

pub returns-clause-clauses : goal.returns-clause-clauses
returns-clause-clauses c = clause_at-start-within

pub returns-clause-none_at_zero : goal.returns-clause-none_at_zero
returns-clause-none_at_zero c = clause_at-start-zero

pub returns-clause-none_above : goal.returns-clause-none_above
returns-clause-none_above c = clause_at-start-above

pub returns-clause-appended : goal.returns-clause-appended
returns-clause-appended c = start-append
