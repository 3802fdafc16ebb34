-- What is left to show of `drat_addition_law`.
use Rattle.drat_rules.proofs.DratAdditions.{drat_fault-refuted, drat_fault-empty, drat_fault-resolved, drat_fault-open}
use Rattle.drat_rules.proofs.laws.drat_addition_law.Goals as goal

pub returns-clause-refuted : goal.returns-clause-refuted
returns-clause-refuted c = drat_fault-refuted

pub returns-clause-empty : goal.returns-clause-empty
returns-clause-empty c = drat_fault-empty

pub returns-clause-resolved : goal.returns-clause-resolved
returns-clause-resolved c = drat_fault-resolved

pub returns-clause-open : goal.returns-clause-open
returns-clause-open c live clauses pivot others id other same at negated found =
    drat_fault-open live clauses pivot others same id other at negated found
