-- What is left to show of `implication_law`.
use Rattle.hint_chain.proofs.AdditionsClose.{implication-high, implication-low}
use Rattle.hint_chain.proofs.StepHints.{implication_high, implication_low}
use Rattle.hint_chain.proofs.laws.implication_law.Goals as goal

pub returns-clause-high : goal.returns-clause-high
returns-clause-high c = implication_high

pub returns-clause-low : goal.returns-clause-low
returns-clause-low c = implication_low

pub returns-clause-high_list : goal.returns-clause-high_list
returns-clause-high_list c = implication-high

pub returns-clause-low_list : goal.returns-clause-low_list
returns-clause-low_list c = implication-low
