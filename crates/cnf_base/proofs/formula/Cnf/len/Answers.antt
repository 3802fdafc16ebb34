-- What is left to show of `Cnf::len`.
use Rattle.std.proofs.Common.{◌∙◌, sym, ap, length}
use Rattle.cnf_base.proofs.FlatFormula.{length-stored}
use Rattle.cnf_base.proofs.formula.Cnf.len.Goals as goal

pub returns : goal.returns
returns c = ap length c.as_slice.ensures.value ∙ sym (length-stored (record { stored = c.self.invariant; value = c.self.view_is }))
