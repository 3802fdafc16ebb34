-- What is left to show of `step_line_law`.
use Rattle.cnf_base.proofs.ProofTextLemmas.{words_of-line, step_of-words, step_of-line}
use Rattle.cnf_base.proofs.laws.step_line_law.Goals as goal

pub returns-clause-words : goal.returns-clause-words
returns-clause-words c = words_of-line

pub returns-clause-spelled : goal.returns-clause-spelled
returns-clause-spelled c = step_of-words

pub returns-clause-line : goal.returns-clause-line
returns-clause-line c = step_of-line
