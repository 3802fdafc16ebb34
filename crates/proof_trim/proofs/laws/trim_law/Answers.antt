-- What is left to show of `trim_law`.
use Rattle.proof_trim.proofs.Closed.{closed}
use Rattle.proof_trim.proofs.Least.{least}
use Rattle.proof_trim.proofs.Shortened.{no_longer, shorter}
use Rattle.proof_trim.proofs.Theorems.{all_named, core-refutes, core-unsatisfiable, trim-again, trim-refutes}
use Rattle.proof_trim.proofs.laws.trim_law.Goals as goal

pub returns-clause-refutes : goal.returns-clause-refutes
returns-clause-refutes c = trim-refutes c.start_law.ensures.none_at_zero c.start_law.ensures.none_above
    c.step_range_law.ensures.printable c.whole_text_law.ensures c.steps_text_law.ensures.lines c.steps_text_law.ensures.refutes
    c.check_law.ensures.long

pub returns-clause-named : goal.returns-clause-named
returns-clause-named c = all_named

pub returns-clause-closed : goal.returns-clause-closed
returns-clause-closed c = closed c.start_law.ensures.none_above

pub returns-clause-least : goal.returns-clause-least
returns-clause-least c = least

pub returns-clause-short : goal.returns-clause-short
returns-clause-short c = shorter c.whole_text_law.ensures c.long_text_law.ensures.front

pub returns-clause-ended : goal.returns-clause-ended
returns-clause-ended c = no_longer c.whole_text_law.ensures c.long_text_law.ensures.front

pub returns-clause-verified : goal.returns-clause-verified
returns-clause-verified c = λ clauses bytes verified short. c.check_law.ensures.refutes clauses _ short
    (trim-refutes c.start_law.ensures.none_at_zero c.start_law.ensures.none_above c.step_range_law.ensures.printable
    c.whole_text_law.ensures c.steps_text_law.ensures.lines c.steps_text_law.ensures.refutes c.check_law.ensures.long clauses bytes
    verified)

pub returns-clause-again : goal.returns-clause-again
returns-clause-again c = trim-again c.start_law.ensures.none_at_zero c.start_law.ensures.none_above
    c.step_range_law.ensures.printable c.whole_text_law.ensures c.steps_text_law.ensures.lines c.steps_text_law.ensures.refutes
    c.check_law.ensures.long

pub returns-clause-core_refuted : goal.returns-clause-core_refuted
returns-clause-core_refuted c = core-refutes c.start_law.ensures.none_at_zero c.start_law.ensures.none_above
    c.step_range_law.ensures.printable c.whole_text_law.ensures c.steps_text_law.ensures.lines c.steps_text_law.ensures.refutes
    c.check_law.ensures.long

pub returns-clause-core_unsatisfiable : goal.returns-clause-core_unsatisfiable
returns-clause-core_unsatisfiable c = λ vars clauses bytes literals verified.
    core-unsatisfiable c.start_law.ensures.none_at_zero c.start_law.ensures.none_above c.step_range_law.ensures.printable
    c.whole_text_law.ensures c.steps_text_law.ensures.lines c.steps_text_law.ensures.refutes c.check_law.ensures.long clauses bytes verified
    (c.start_law.ensures.clauses clauses) c.soundness_law.ensures.addition c.soundness_law.ensures.deletion
    c.soundness_law.ensures.nonzero_step c.soundness_law.ensures.nonzero_text (c.soundness_law.ensures.nonzero_start vars clauses literals)
