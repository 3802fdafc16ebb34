-- What is left to show of `step_range_law`.
use Rattle.cnf_base.specs.declared.step.Step.TheVariants.{Delete}
use Rattle.std.proofs.lemmas.Bool.{and_parts}
use Rattle.cnf_base.proofs.ProofTextLemmas.{printable_of_words, addition_parts}
use Rattle.cnf_base.proofs.laws.step_range_law.Goals as goal

pub returns-clause-printable : goal.returns-clause-printable
returns-clause-printable c = printable_of_words

pub returns-clause-id : goal.returns-clause-id
returns-clause-id c words id literals hints groups e = (addition_parts words id literals hints groups e).0

pub returns-clause-literals : goal.returns-clause-literals
returns-clause-literals c words id literals hints groups e = (addition_parts words id literals hints groups e).1

pub returns-clause-hints : goal.returns-clause-hints
returns-clause-hints c words id literals hints groups e = (addition_parts words id literals hints groups e).2

pub returns-clause-groups : goal.returns-clause-groups
returns-clause-groups c words id literals hints groups e = (addition_parts words id literals hints groups e).3

pub returns-clause-deletion : goal.returns-clause-deletion
returns-clause-deletion c words id ids e = (and_parts _ _ (printable_of_words words (Delete id ids) e)).0

pub returns-clause-deleted : goal.returns-clause-deleted
returns-clause-deleted c words id ids e = (and_parts _ _ (printable_of_words words (Delete id ids) e)).1
