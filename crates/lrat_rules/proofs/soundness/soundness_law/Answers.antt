-- What is left to show of `soundness_law`.
use Rattle.lrat_rules.proofs.SoundSteps.{SatisfiesLive-Closes, SatisfiesUpToPivot-fault, LivePass-without_clauses, LivePass-start}
use Rattle.lrat_rules.proofs.SoundSteps.{LiveHasNoZero-step, LiveHasNoZero-run, run-sound}
use Rattle.lrat_rules.proofs.Refuted.{proof_lines_no_zero, LiveHasNoZero-start, unsatisfiable}
use Rattle.lrat_rules.proofs.Derivations.{unsatisfiable_derived}
use Rattle.cnf_base.specs.Truth.{clause_holds}
use Rattle.lrat_rules.proofs.soundness.soundness_law.Goals as goal

pub returns-clause-addition_by_hints : goal.returns-clause-addition_by_hints
returns-clause-addition_by_hints c a live id clause hints z s closes = SatisfiesLive-Closes a live id clause hints z s closes.closed

pub returns-clause-addition : goal.returns-clause-addition
returns-clause-addition c = SatisfiesUpToPivot-fault

pub returns-clause-deletion : goal.returns-clause-deletion
returns-clause-deletion c a live ids s = LivePass-without_clauses (clause_holds a) live ids s

pub returns-clause-steps : goal.returns-clause-steps
returns-clause-steps c a state reached lines runs z no_zero s =
    let survives = run-sound a state reached lines record { nonzero = z; satisfied = s } no_zero runs in
    (survives.assignment, survives.model.satisfied)

pub returns-clause-start : goal.returns-clause-start
returns-clause-start c a clauses s = LivePass-start (clause_holds a) clauses s

pub returns-clause-nonzero_start : goal.returns-clause-nonzero_start
returns-clause-nonzero_start c = LiveHasNoZero-start

pub returns-clause-nonzero_step : goal.returns-clause-nonzero_step
returns-clause-nonzero_step c = LiveHasNoZero-step

pub returns-clause-nonzero_steps : goal.returns-clause-nonzero_steps
returns-clause-nonzero_steps c = LiveHasNoZero-run

pub returns-clause-nonzero_text : goal.returns-clause-nonzero_text
returns-clause-nonzero_text c = proof_lines_no_zero

pub returns-clause-refuted : goal.returns-clause-refuted
returns-clause-refuted c = unsatisfiable

pub returns-clause-derived : goal.returns-clause-derived
returns-clause-derived c = unsatisfiable_derived
