-- What is left to show of `conjunction_law`.
use Rattle.hint_chain.proofs.AdditionsClose.{conjunction-high, conjunction-low}
use Rattle.hint_chain.proofs.StepHints.{conjunction_high, conjunction_low}
use Rattle.hint_chain.proofs.laws.conjunction_law.Goals as goal

pub returns-clause-high : goal.returns-clause-high
returns-clause-high c = conjunction_high

pub returns-clause-low : goal.returns-clause-low
returns-clause-low c = conjunction_low

pub returns-clause-high_list : goal.returns-clause-high_list
returns-clause-high_list c = conjunction-high

pub returns-clause-low_list : goal.returns-clause-low_list
returns-clause-low_list c = conjunction-low
