-- What is left to show of `Cnf::formula_law`.
use Rattle.cnf_base.proofs.FlatFormula.{formula-stored}
use Rattle.cnf_base.proofs.formula.Cnf.formula_law.Goals as goal

pub returns : goal.returns
returns c = formula-stored (record { stored = c.self.invariant; value = c.self.view_is })
