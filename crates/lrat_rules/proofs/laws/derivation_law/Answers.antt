-- What is left to show of `derivation_law`.
use Rattle.lrat_rules.proofs.Derivations.{IsDerivation-one_more, text_of-one_more, Spells-IsWritten, Refutes-by_step, Refutes-live}
use Rattle.lrat_rules.proofs.laws.derivation_law.Goals as goal

pub returns-clause-one_more : goal.returns-clause-one_more
returns-clause-one_more c = IsDerivation-one_more

pub returns-clause-text : goal.returns-clause-text
returns-clause-text c = text_of-one_more

pub returns-clause-spells : goal.returns-clause-spells
returns-clause-spells c = let law = c.one_more_line_law.ensures in Spells-IsWritten law.appended law.whole law.ends

pub returns-clause-refutes_by_step : goal.returns-clause-refutes_by_step
returns-clause-refutes_by_step c = let law = c.one_more_line_law.ensures in Refutes-by_step law.appended law.whole law.ends

pub returns-clause-refutes : goal.returns-clause-refutes
returns-clause-refutes c = let law = c.one_more_line_law.ensures in Refutes-live law.appended law.whole law.ends
