-- What is left to show of `marks_law`.
use Rattle.lrat_rules.proofs.MarksAtStart.{in_use-start}
use Rattle.lrat_rules.proofs.FewerMarks.{in_use-fewer}
use Rattle.lrat_rules.proofs.laws.marks_law.Goals as goal

pub returns-clause-start : goal.returns-clause-start
returns-clause-start c = in_use-start

pub returns-clause-fewer : goal.returns-clause-fewer
returns-clause-fewer c = in_use-fewer
