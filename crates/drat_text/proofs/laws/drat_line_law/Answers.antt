-- A written line reads back as its step.
use Rattle.drat_text.proofs.ReadBack.{words_back, step_back, drat_lines-line, line_ends-drat, whole-line}
use Rattle.drat_text.proofs.laws.drat_line_law.Goals as goal

pub returns-clause-words : goal.returns-clause-words
returns-clause-words c = words_back

pub returns-clause-spelled : goal.returns-clause-spelled
returns-clause-spelled c = step_back

pub returns-clause-appended : goal.returns-clause-appended
returns-clause-appended c = drat_lines-line

pub returns-clause-whole : goal.returns-clause-whole
returns-clause-whole c = whole-line

pub returns-clause-ends : goal.returns-clause-ends
returns-clause-ends c = line_ends-drat
