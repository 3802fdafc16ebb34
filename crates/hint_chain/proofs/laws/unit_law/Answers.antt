-- What is left to show of `unit_law`.
use Rattle.hint_chain.proofs.UnitsRefute.{unit-refutes}
use Rattle.hint_chain.proofs.laws.unit_law.Goals as goal

pub returns : goal.returns
returns c live path node nodes clause input is stands = record { strict = unit-refutes live path node nodes clause input is stands }
