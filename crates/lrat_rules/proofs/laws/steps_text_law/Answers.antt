-- What is left to show of `steps_text_law`.
use Rattle.lrat_rules.proofs.Derivations.{lines_of_text, Refutes-run}
use Rattle.lrat_rules.proofs.laws.steps_text_law.Goals as goal

pub returns-clause-lines : goal.returns-clause-lines
returns-clause-lines c = let law = c.one_more_line_law.ensures in lines_of_text law.appended law.whole law.ends

pub returns-clause-refutes : goal.returns-clause-refutes
returns-clause-refutes c = let law = c.one_more_line_law.ensures in Refutes-run law.appended law.whole law.ends
