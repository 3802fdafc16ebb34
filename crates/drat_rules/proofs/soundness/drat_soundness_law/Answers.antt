-- What is left to show of `drat_soundness_law`.
use Rattle.drat_rules.proofs.Falsified.{clause_holds-none}
use Rattle.drat_rules.proofs.Resolvents.{SatisfiesAllUpToPivot-drat_fault}
use Rattle.drat_rules.proofs.SoundSteps.{all-without_first, have_no_zero-after, have_no_zero-formula, steps-sound, unsatisfiable}
use Rattle.cnf_base.specs.Truth.{clause_holds}
use Rattle.drat_rules.proofs.soundness.drat_soundness_law.Goals as goal

pub returns-clause-addition_by_propagation : goal.returns-clause-addition_by_propagation
returns-clause-addition_by_propagation c a clauses clause z own s none = clause_holds-none a clauses clause s z own none

pub returns-clause-addition : goal.returns-clause-addition
returns-clause-addition c a clauses clause z own s good = SatisfiesAllUpToPivot-drat_fault a clauses clause s z own good

pub returns-clause-deletion : goal.returns-clause-deletion
returns-clause-deletion c same a clauses clause s = all-without_first same (clause_holds a) clause clauses s

pub returns-clause-steps : goal.returns-clause-steps
returns-clause-steps c same a place clauses steps z own s good =
    let survives = steps-sound same a place clauses steps record { satisfied = s; nonzero = z } own good in
    (survives.assignment, survives.model.satisfied)

pub returns-clause-nonzero_start : goal.returns-clause-nonzero_start
returns-clause-nonzero_start c = have_no_zero-formula

pub returns-clause-nonzero_step : goal.returns-clause-nonzero_step
returns-clause-nonzero_step c = have_no_zero-after

pub returns-clause-refuted : goal.returns-clause-refuted
returns-clause-refuted c = unsatisfiable
